-- An entry by its bytes and the place of its colon.
use Rattle.std.proofs.Common.{◌≡◌, ℕ, suc, ◌+◌, ◌<◌, List, ◌∷◌, ◌++◌, length, take, drop, get_or, Option, Some, None, refl, sym, ap, ◌∙◌, arith}
use Rattle.std.proofs.Math.Seq.{split_at}
use Rattle.mail_headers.specs.Cutting.{entry_at, HasColon}
use Rattle.mail_headers.specs.Header.{entry_bytes}

-- the bytes, cut at a colon, are name, colon and value
pub colon_split : (bs : List ℕ) (k : ℕ) → k < length bs → get_or bs k 0 ≡ 58 → take k bs ++ 58 ∷ drop (k + 1) bs ≡ bs
colon_split bs k within colon =
    let later : k + 1 ≡ suc k = omega arith in
    ap (λ (j : ℕ). take k bs ++ 58 ∷ drop j bs) later ∙ ap (λ (b : ℕ). take k bs ++ b ∷ drop (suc k) bs) (sym colon) ∙ sym (split_at bs k 0 within)

pub entry_bytes-at : (bs : List ℕ) (colon : Option ℕ) → HasColon bs colon → entry_bytes (entry_at bs colon) ≡ bs
entry_bytes-at bs None has = refl
entry_bytes-at bs (Some k) has = let h = has k refl in colon_split bs k h.0 h.1
