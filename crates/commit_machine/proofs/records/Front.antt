-- The front of a record's text tells whether it is that of a token's decision.
use Rattle.std.proofs.Common.{◌≡◌, ℕ, ℤ, true, false, nat_eq, List, ◌++◌, length, take, codes, decimal, Option, Some, None, append_assoc, length-append, refl, sym, ap, ◌∙◌, arith}
use Rattle.std.proofs.lemmas.Bool.{cond-true, cond-false}
use Rattle.std.proofs.lemmas.List.{take_at}
use Rattle.std.proofs.lemmas.Slice.Eq.{bytes_eq-Decides}
use Rattle.std.specs.Int.{to_be_bytes, w64}
use Rattle.std.specs.List.{flat_map, starts_with}
use Rattle.hex.specs.Hex.{lower_digits}
use Rattle.hex.proofs.HexLemmas.{length-encode_with}
use Rattle.commit_record.specs.Format.{line, entry_line, moment_line, phase_word, token_digits, version_line, written}
use Rattle.commit_record.specs.declared.record.Phase.TheVariants.{Go}
use Rattle.commit_record.specs.declared.record.Entry.{Entry}
use Rattle.commit_record.specs.declared.record.Record.{Record}
use Rattle.commit_record.proofs.FormatLemmas.{written-fronts}
use Rattle.commit_machine.specs.Records.{record_in}
use Rattle.commit_machine.specs.Jobs.{Before, After, Job, Made, moment_of, prepare_of, go_of}
use Rattle.commit_machine.specs.Machine.{go_front, passed_by}
use Rattle.commit_machine.proofs.records.InFile.{record_of-is}

-- bytes begin with their front
begins : (front rest : List ℕ) → starts_with nat_eq (front ++ rest) front ≡ true
begins front rest = (bytes_eq-Decides front (take (length front) (front ++ rest))).1 (sym (take_at front rest _ refl))

-- the first letters of the two phases are different
other_phase : (o : Option ℤ) (a b : List ℕ) → starts_with nat_eq (version_line o ++ (codes "phase p" ++ a)) (version_line o ++ (codes "phase g" ++ b)) ≡ false
other_phase None a b = refl
other_phase (Some m) a b = refl

five : (f a b c d : List ℕ) → (((f ++ a) ++ b) ++ c) ++ d ≡ f ++ (a ++ (b ++ (c ++ d)))
five f a b c d = simp append_assoc

-- the record with these parts
abbrev going : Option ℤ → ℕ → List Entry → Record
going o t es = record { phase = Go; token = t; moment = o; entries = es }

-- what stands after the front
abbrev behind : Option ℤ → List Entry → List ℕ
behind o es = moment_line o ++ (line (codes "entries " ++ decimal (length es)) ++ (flat_map entry_line es ++ line (codes "end")))

going-is : (o : Option ℤ) (t : ℕ) (es : List Entry) → written (going o t es) ≡ go_front o t ++ behind o es
unfolding written go_front
going-is o t es = five (version_line o ++ line (codes "phase " ++ phase_word Go) ++ line (codes "token " ++ token_digits t)) (moment_line o) (line (codes "entries " ++ decimal (length es))) (flat_map entry_line es) (line (codes "end"))

-- the first line has as many bytes in both versions
version-length : (o : Option ℤ) → length (version_line o) ≡ 15
version-length None = refl
version-length (Some m) = refl

front-length : (o : Option ℤ) (t : ℕ) → length (go_front o t) ≡ 47
unfolding go_front
front-length o t =
    let ds = token_digits t in
    let len : length ds ≡ 16 = length-encode_with lower_digits (to_be_bytes w64 t) in
    let first = version-length o in
    grind (arith, length-append)

-- the first 47 bytes of the text of a decision's record
pub front-taken : (o : Option ℤ) (t : ℕ) (es : List Entry) → take 47 (written (going o t es)) ≡ go_front o t
front-taken o t es = ap (take 47) (going-is o t es) ∙ take_at (go_front o t) (behind o es) 47 (front-length o t)

passed-going : (j : Job) (es : List Entry) → passed_by j (Some (written (going (moment_of j) j.token es))) ≡ After
passed-going j es =
    let front = go_front (moment_of j) j.token in
    cond-true _ _ _ (ap (λ (bs : List ℕ). starts_with nat_eq bs front) (going-is (moment_of j) j.token es) ∙ begins front (behind (moment_of j) es))

-- the record of the decision stands
pub passed-after : (j : Job) (made : List Made) (c : Option (List ℕ)) → c ≡ Some (written (go_of j made)) → passed_by j c ≡ After
passed-after j made c is = ap (passed_by j) is ∙ passed-going j (go_of j made).entries

prepare-front : (j : Job) → (rest : List ℕ) × (written (prepare_of j) ≡ version_line (moment_of j) ++ (codes "phase p" ++ rest))
prepare-front j = (_, written-fronts (prepare_of j))

go-front : (o : Option ℤ) (t : ℕ) → (rest : List ℕ) × (go_front o t ≡ version_line o ++ (codes "phase g" ++ rest))
unfolding go_front
go-front o t = (_, append_assoc (version_line o) (line (codes "phase " ++ phase_word Go)) (line (codes "token " ++ token_digits t)))

-- the record before the decision stands
pub passed-before : (j : Job) (c : Option (List ℕ)) → record_in c ≡ Some (prepare_of j) → passed_by j c ≡ Before
passed-before j None is = refl
passed-before j (Some bytes) is =
    let p = prepare-front j in
    let o = moment_of j in
    let g = go-front o j.token in
    cond-false _ _ _ (
    ap (λ (bs : List ℕ). starts_with nat_eq bs (go_front o j.token)) ((record_of-is bytes (prepare_of j) is).is ∙ p.1)
    ∙ ap (starts_with nat_eq (version_line o ++ (codes "phase p" ++ p.0))) g.1
    ∙ other_phase o p.0 g.0)
