-- Names that are the same but for the case of their letters are as long.
use Rattle.std.proofs.Common.{◌≡◌, ℕ, true, false, ◌==◌, List, length, sym, ap, ◌∙◌, ⊎_elim}
use Rattle.std.specs.Str.{str_to_ascii_lowercase}
use Rattle.std.specs.Char.{to_ascii_lowercase}
use Rattle.std.proofs.lemmas.Bool.{eq-eqb, false≢true, cases_Bool}
use Rattle.std.proofs.lemmas.List.{length-map}
use Rattle.std.proofs.lemmas.Slice.Eq.{bytes_eq-Decides}
use Rattle.mail_text.specs.Ascii.{same_ascii}

pub same_ascii-length : (a b : List ℕ) → same_ascii a b ≡ true → length a ≡ length b
same_ascii-length a b same =
    let is : str_to_ascii_lowercase a ≡ str_to_ascii_lowercase b = (bytes_eq-Decides (str_to_ascii_lowercase a) (str_to_ascii_lowercase b)).0 same in
    sym (length-map a to_ascii_lowercase) ∙ ap (λ (bs : List ℕ). length bs) is ∙ length-map b to_ascii_lowercase

pub same_ascii-apart : (a b : List ℕ) → (length a == length b) ≡ false → same_ascii a b ≡ false
same_ascii-apart a b apart =
    ⊎_elim
    (λ same. absurd (false≢true (sym apart ∙ eq-eqb _ _ (same_ascii-length a b same))))
    (λ different. different)
    (cases_Bool (same_ascii a b))
