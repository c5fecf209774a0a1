-- Names of records, staged names and names of files are apart.
use Rattle.std.proofs.Common.{◌≡◌, ◌≢◌, ℕ, ◌-◌, ◌<◌, ◌/◌, ◌%◌, zero, suc, Bool, true, false, ◌&&◌, List, [], ◌∷◌, ◌++◌, length, drop, codes, slice_index, refl, ap, sym, subst, arith, length-append}
use Rattle.std.proofs.lemmas.Bool.{and_parts}
use Rattle.std.proofs.lemmas.Grind.{common_steps}
use Rattle.std.proofs.lemmas.List.{drop_at, take_at, take-append-drop}
use Rattle.commit_machine.proofs.records.Same.{same_refl, same_true}
use Rattle.std.specs.Str.{bytes_eq}
use Rattle.std.proofs.Common.{◌||◌, ◌∙◌, take}
use Rattle.std.specs.List.{list_all}
use Rattle.std.specs.Int.{to_be_bytes, w64, bytes_high_first, byte_at}
use Rattle.hex.specs.Hex.{encode_with, lower_digits}
use Rattle.hex.proofs.HexLemmas.{length-encode_with}
use Rattle.commit_record.specs.Format.{token_digits}
use Rattle.commit_record.specs.Names.{is_lawful, is_staged_end, is_lower_hex}
use Rattle.commit_machine.specs.Names.{record_name, new_name, staged_name, is_record_name}

-- what stands after two equal fronts is equal, and the other way round
behind : (a b c : List ℕ) → a ++ b ≡ a ++ c → b ≡ c
behind [] b c e = e
behind (x ∷ xs) b c e = behind xs b c (cc)

lengths : (a b x : List ℕ) → a ++ x ≡ b ++ x → length a ≡ length b
lengths a b x e = omega (arith, length-append a x, length-append b x, ap length e)

long_end : (b : List ℕ) (y : ℕ) (x : List ℕ) → [] ++ x ≡ (y ∷ b) ++ x → ⊥
long_end b y x e = let l = lengths [] (y ∷ b) x e in absurd (omega arith)

before : (a b x : List ℕ) → a ++ x ≡ b ++ x → a ≡ b
before [] [] x e = refl
before [] (y ∷ b) x e = absurd (long_end b y x e)
before (y ∷ a) [] x e = absurd (long_end a y x (sym e))
before (y ∷ a) (z ∷ b) x e = let h : a ≡ b = before a b x (cc) in let w : y ≡ z = cc in cc

pub record-new : (actor : List ℕ) → record_name actor ≢ new_name actor
unfolding record_name new_name
record-new actor e = let w : codes ".commit" ≡ codes ".commit.new" = behind actor (codes ".commit") (codes ".commit.new") e in absurd (cc)

-- one file for a staged name of a token
pub staged-one : (t : ℕ) (m n : List ℕ) → staged_name t m ≡ staged_name t n → m ≡ n
unfolding staged_name
staged-one t m n e = before m n (codes ".mx" ++ token_digits t) e

all_at : (p : ℕ → Bool) (xs : List ℕ) (k : ℕ) → list_all p xs ≡ true → k < length xs → p (slice_index xs k) ≡ true
all_at p [] k h l = absurd (omega arith)
all_at p (x ∷ xs) zero h l = (and_parts (p x) (list_all p xs) h).0
all_at p (x ∷ xs) (suc k) h l = all_at p xs k (and_parts (p x) (list_all p xs) h).1 (omega arith)

digit_is_hex : (k : ℕ) → k < 16 → is_lower_hex (slice_index lower_digits k) ≡ true
digit_is_hex k l = all_at is_lower_hex lower_digits k refl l

byte_at-below : (k n : ℕ) → byte_at k n < 256
byte_at-below zero n = omega arith
byte_at-below (suc k) n = omega arith

and_both : (a b : Bool) → a ≡ true → b ≡ true → (a && b) ≡ true
and_both a b e f = rw (e, f) refl

high_is_hex : (b : ℕ) → b < 256 → is_lower_hex (slice_index lower_digits (b / 16)) ≡ true
high_is_hex b l = digit_is_hex (b / 16) (omega arith)

low_is_hex : (b : ℕ) → is_lower_hex (slice_index lower_digits (b % 16)) ≡ true
low_is_hex b = digit_is_hex (b % 16) (omega arith)

all_hex : (k n : ℕ) → list_all is_lower_hex (encode_with lower_digits (bytes_high_first k n)) ≡ true
unfolding encode_with
all_hex zero n = refl
all_hex (suc k) n =
    and_both _ _ (high_is_hex (byte_at k n) (byte_at-below k n)) (and_both _ _ (low_is_hex (byte_at k n)) (all_hex k n))

pub token_digits-hex : (t : ℕ) → list_all is_lower_hex (token_digits t) ≡ true
token_digits-hex t = all_hex 8 t

pub token_digits-long : (t : ℕ) → length (token_digits t) ≡ 16
token_digits-long t = length-encode_with lower_digits (to_be_bytes w64 t)

staged_end : (t : ℕ) → is_staged_end (codes ".mx" ++ token_digits t) ≡ true
staged_end t =
    let long : length (codes ".mx" ++ token_digits t) ≡ 19 = omega (arith, token_digits-long t, length-append (codes ".mx") (token_digits t)) in
    rw (long, token_digits-hex t) refl

unlawful : (n : List ℕ) → is_staged_end (drop (length n - 19) n) ≡ true → is_lawful n ≡ false
unlawful n h = grind (arith, common_steps)

-- no lawful name is a staged name
staged_unlawful : (t : ℕ) (m : List ℕ) → is_lawful (staged_name t m) ≡ false
unfolding staged_name
staged_unlawful t m =
    let end = codes ".mx" ++ token_digits t in
    let long : length end ≡ 19 = omega (arith, token_digits-long t, length-append (codes ".mx") (token_digits t)) in
    let all : length (m ++ end) - 19 ≡ length m = omega (arith, length-append m end, long) in
    let e : drop (length (m ++ end) - 19) (m ++ end) ≡ end = rw all (drop_at m end (length m) refl) in
    unlawful (m ++ end) (rw e (staged_end t))

pub lawful-staged : (n : List ℕ) (t : ℕ) (m : List ℕ) → is_lawful n ≡ true → n ≢ staged_name t m
lawful-staged n t m h e = let w = staged_unlawful t m in let v : is_lawful (staged_name t m) ≡ true = subst (λ (z : List ℕ). is_lawful z ≡ true) e h in absurd (cc)

last : ℕ → List ℕ → ℕ
last d [] = d
last d (x ∷ xs) = last x xs

last-append : (d : ℕ) (xs : List ℕ) (y : ℕ) (ys : List ℕ) → last d (xs ++ (y ∷ ys)) ≡ last y ys
unfolding last
last-append d [] y ys = refl
last-append d (x ∷ xs) y ys = last-append x xs y ys

last-staged : (t : ℕ) (m : List ℕ) → is_lower_hex (last 0 (staged_name t m)) ≡ true
unfolding staged_name encode_with last
last-staged t m = subst (λ (z : ℕ). is_lower_hex z ≡ true) (sym (last-append 0 m 46 (codes "mx" ++ token_digits t))) (low_is_hex (byte_at 0 t))

last-record : (actor : List ℕ) → last 0 (record_name actor) ≡ 116
unfolding record_name last
last-record actor = last-append 0 actor 46 (codes "commit")

last-new : (actor : List ℕ) → last 0 (new_name actor) ≡ 119
unfolding new_name last
last-new actor = last-append 0 actor 46 (codes "commit.new")

not_hex : (a b : List ℕ) (x : ℕ) → is_lower_hex (last 0 a) ≡ true → last 0 b ≡ x → is_lower_hex x ≡ false → a ≢ b
not_hex a b x h l other e =
    let w : is_lower_hex x ≡ true = subst (λ (z : ℕ). is_lower_hex z ≡ true) l (subst (λ (z : List ℕ). is_lower_hex (last 0 z) ≡ true) e h) in absurd (cc)

pub staged-record : (t : ℕ) (m actor : List ℕ) → staged_name t m ≢ record_name actor
staged-record t m actor = not_hex (staged_name t m) (record_name actor) 116 (last-staged t m) (last-record actor) refl

pub staged-new : (t : ℕ) (m actor : List ℕ) → staged_name t m ≢ new_name actor
staged-new t m actor = not_hex (staged_name t m) (new_name actor) 119 (last-staged t m) (last-new actor) refl

same_tests : (a b : Bool) → (a ≡ true → b ≡ true) → (b ≡ true → a ≡ true) → a ≡ b
same_tests true b f g = sym (f refl)
same_tests false true f g = absurd (let w = g refl in cc)
same_tests false false f g = refl

-- a name is an actor's with an end where its front is the actor and its back the end
pub name_parts : (actor end n : List ℕ) → bytes_eq n (actor ++ end) ≡ (bytes_eq (take (length actor) n) actor && bytes_eq (drop (length actor) n) end)
name_parts actor end n = same_tests (bytes_eq n (actor ++ end)) (bytes_eq (take (length actor) n) actor && bytes_eq (drop (length actor) n) end) there back
  where
    there : bytes_eq n (actor ++ end) ≡ true → (bytes_eq (take (length actor) n) actor && bytes_eq (drop (length actor) n) end) ≡ true
    there y =
        let is : n ≡ actor ++ end = same_true n (actor ++ end) y in
        let front : take (length actor) n ≡ actor = ap (take (length actor)) is ∙ take_at actor end (length actor) refl in
        let rest : drop (length actor) n ≡ end = ap (drop (length actor)) is ∙ drop_at actor end (length actor) refl in
        let f : bytes_eq (take (length actor) n) actor ≡ true = subst (λ (z : List ℕ). bytes_eq z actor ≡ true) (sym front) (same_refl actor) in
        let r : bytes_eq (drop (length actor) n) end ≡ true = subst (λ (z : List ℕ). bytes_eq z end ≡ true) (sym rest) (same_refl end) in
        and_both _ _ f r

    back : (bytes_eq (take (length actor) n) actor && bytes_eq (drop (length actor) n) end) ≡ true → bytes_eq n (actor ++ end) ≡ true
    back y =
        let p = and_parts (bytes_eq (take (length actor) n) actor) (bytes_eq (drop (length actor) n) end) y in
        let front : take (length actor) n ≡ actor = same_true _ _ p.0 in
        let rest : drop (length actor) n ≡ end = same_true _ _ p.1 in
        let is : n ≡ actor ++ end = sym (take-append-drop (length actor) n) ∙ ap (λ (z : List ℕ). z ++ drop (length actor) n) front ∙ ap (λ (z : List ℕ). actor ++ z) rest in
        subst (λ (z : List ℕ). bytes_eq z (actor ++ end) ≡ true) (sym is) (same_refl (actor ++ end))

-- the test for record names by the front of a name
pub by_front : (actor n end : List ℕ) → bytes_eq (take (length actor) n) actor ≡ true → end ≡ drop (length actor) n → (bytes_eq end (codes ".commit") || bytes_eq end (codes ".commit.new")) ≡ is_record_name actor n
unfolding record_name new_name
by_front actor n end front rest =
    let a : bytes_eq n (actor ++ codes ".commit") ≡ bytes_eq end (codes ".commit") = name_parts actor (codes ".commit") n ∙ ap (λ (b : Bool). b && bytes_eq (drop (length actor) n) (codes ".commit")) front ∙ ap (λ (z : List ℕ). bytes_eq z (codes ".commit")) (sym rest) in
    let b : bytes_eq n (actor ++ codes ".commit.new") ≡ bytes_eq end (codes ".commit.new") = name_parts actor (codes ".commit.new") n ∙ ap (λ (b : Bool). b && bytes_eq (drop (length actor) n) (codes ".commit.new")) front ∙ ap (λ (z : List ℕ). bytes_eq z (codes ".commit.new")) (sym rest) in
    ap (λ (x : Bool). x || bytes_eq end (codes ".commit.new")) (sym a) ∙ ap (λ (y : Bool). bytes_eq n (actor ++ codes ".commit") || y) (sym b)

pub other_front : (actor n : List ℕ) → bytes_eq (take (length actor) n) actor ≡ false → false ≡ is_record_name actor n
unfolding record_name new_name
other_front actor n front =
    let a : bytes_eq n (actor ++ codes ".commit") ≡ false = name_parts actor (codes ".commit") n ∙ ap (λ (b : Bool). b && bytes_eq (drop (length actor) n) (codes ".commit")) front in
    let b : bytes_eq n (actor ++ codes ".commit.new") ≡ false = name_parts actor (codes ".commit.new") n ∙ ap (λ (b : Bool). b && bytes_eq (drop (length actor) n) (codes ".commit.new")) front in
    ap (λ (x : Bool). x || false) (sym a) ∙ ap (λ (y : Bool). bytes_eq n (actor ++ codes ".commit") || y) (sym b)
