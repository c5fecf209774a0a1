-- The text of a record as it is put together, and as it is read.
use Rattle.std.proofs.Common.{◌≡◌, ℕ, ℤ, unsigned_abs, List, [], ◌∷◌, ◌++◌, length, codes, decimal, Option, Some, None, append_assoc, refl, ap, ◌∙◌}
use Rattle.std.specs.List.{flat_map}
use Rattle.commit_record.specs.declared.record.Record.{Record}
use Rattle.commit_record.specs.Format.{entry_line, moment_line, phase_word, token_digits, version_line, written}

put_together : (v b c d e nl p t k n m : List ℕ)
    → (((((((((((v ++ b) ++ p) ++ (nl ++ c)) ++ t) ++ nl) ++ k) ++ d) ++ n) ++ nl) ++ m) ++ (e ++ nl))
    ≡ (((((v ++ ((b ++ p) ++ nl)) ++ ((c ++ t) ++ nl)) ++ k) ++ ((d ++ n) ++ nl)) ++ m) ++ (e ++ nl)
put_together v b c d e nl p t k n m = simp append_assoc

as_read : (v b c d e nl p t k n m : List ℕ)
    → (((((v ++ ((b ++ p) ++ nl)) ++ ((c ++ t) ++ nl)) ++ k) ++ ((d ++ n) ++ nl)) ++ m) ++ (e ++ nl)
    ≡ v ++ (b ++ ((p ++ nl) ++ (c ++ (t ++ ((nl ++ k) ++ (d ++ (n ++ (nl ++ (m ++ (e ++ nl))))))))))
as_read v b c d e nl p t k n m = simp append_assoc

put_behind : (k nl d rest : List ℕ) → (k ++ nl) ++ (d ++ rest) ≡ k ++ ((nl ++ d) ++ rest)
put_behind k nl d rest = simp append_assoc

around : (a w nl : List ℕ) → nl ++ ((a ++ w) ++ nl) ≡ ((nl ++ a) ++ w) ++ nl
around a w nl = simp append_assoc

-- the moment as it stands behind the line before it
abbrev pub moment_words : Option ℤ → List ℕ
moment_words None = []
moment_words (Some moment) = codes "\nmoment " ++ decimal (unsigned_abs moment)

behind_line : (o : Option ℤ) → (10 ∷ []) ++ moment_line o ≡ moment_words o ++ (10 ∷ [])
behind_line None = refl
behind_line (Some moment) = around (codes "moment ") (decimal (unsigned_abs moment)) (10 ∷ [])

-- piece after piece
pub written-pieces : (r : Record)
    → (((((((((((version_line r.moment ++ codes "phase ") ++ phase_word r.phase) ++ codes "\ntoken ") ++ token_digits r.token) ++ codes "\n") ++ moment_line r.moment) ++ codes "entries ") ++ decimal (length r.entries)) ++ codes "\n") ++ flat_map entry_line r.entries) ++ codes "end\n")
    ≡ written r
unfolding written
written-pieces r = put_together (version_line r.moment) (codes "phase ") (codes "token ") (codes "entries ") (codes "end") (10 ∷ []) (phase_word r.phase) (token_digits r.token) (moment_line r.moment) (decimal (length r.entries)) (flat_map entry_line r.entries)

-- each piece before what follows it
pub written-fronts : (r : Record)
    → written r
    ≡ version_line r.moment ++ (codes "phase " ++ ((phase_word r.phase ++ codes "\n") ++ (codes "token " ++ (token_digits r.token ++ (moment_words r.moment ++ (codes "\nentries " ++ (decimal (length r.entries) ++ (codes "\n" ++ (flat_map entry_line r.entries ++ codes "end\n")))))))))
unfolding written
written-fronts r =
    let lines = codes "\n" ++ (flat_map entry_line r.entries ++ codes "end\n") in
    let count = decimal (length r.entries) ++ lines in
    let before : List ℕ → List ℕ = λ text. version_line r.moment ++ (codes "phase " ++ ((phase_word r.phase ++ codes "\n") ++ (codes "token " ++ (token_digits r.token ++ text)))) in
    as_read (version_line r.moment) (codes "phase ") (codes "token ") (codes "entries ") (codes "end") (10 ∷ []) (phase_word r.phase) (token_digits r.token) (moment_line r.moment) (decimal (length r.entries)) (flat_map entry_line r.entries)
    ∙ ap (λ (k : List ℕ). before (k ++ (codes "entries " ++ count))) (behind_line r.moment)
    ∙ ap before (put_behind (moment_words r.moment) (10 ∷ []) (codes "entries ") count)
