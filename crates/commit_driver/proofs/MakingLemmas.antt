-- What added changes put behind what is held of a file follows from the end of the bytes that stay.
use Rattle.std.proofs.Common.{◌≡◌, ℕ, ◌+◌, ◌-◌, ◌<◌, ◌≤◌, Bool, true, false, ◌||◌, ◌==◌, List, [], ◌∷◌, ◌++◌, length, take, drop, Option, Some, Result, Ok, Err, refl, ap, sym, subst, inl, inr, ◌∙◌, arith, append_assoc, take-append-drop}
use Rattle.std.specs.Prelude.{nat_eq, if◌then◌else◌}
use Rattle.std.specs.List.{ends_with}
use Rattle.std.specs.Result.{IfErr, IsOk}
use Rattle.std.specs.Str.{bytes_eq}
use Rattle.std.proofs.lemmas.Bool.{cases_Bool, eqb-true}
use Rattle.std.proofs.lemmas.List.{length-append, length-drop}
use Rattle.std.proofs.Math.Seq.{drop-append-add}
use Rattle.mbox_scan.specs.Mailbox.{two_feeds, join}
use Rattle.folder_change.specs.declared.change.Change.{Change}
use Rattle.folder_change.specs.declared.change.Change.TheVariants.{Rewrite, Add, Front, AddRaw}
use Rattle.folder_change.specs.declared.error.ChangeError.{ChangeError}
use Rattle.folder_change.specs.declared.error.ChangeError.TheVariants.{Memory}
use Rattle.folder_change.specs.Outcomes.{missing_feeds, outcome_of, Explains}
use Rattle.commit_machine.specs.Edits.{is_added}
use Rattle.commit_driver.specs.Holding.{end_of, IsHeldOf, MakesHeld}

-- how bytes end is seen at their end
ends-same : (x y needle : List ℕ) → length needle ≤ length y → ends_with nat_eq (x ++ y) needle ≡ ends_with nat_eq y needle
ends-same x y needle h =
    let skipped : length (x ++ y) - length needle ≡ length x + (length y - length needle) = omega (arith, length-append x y, h) in
    ap (bytes_eq needle) (ap (λ (k : ℕ). drop k (x ++ y)) skipped ∙ drop-append-add x y (length y - length needle))

abbrev feeds : Bool → Bool → List ℕ
feeds two one = if two then [] else if one then 10 ∷ [] else two_feeds

full : (n : ℕ) → 0 < n → (n == 0) ≡ false
full n h = elim (cases_Bool (n == 0)) [ inl t ↦ absurd (omega (arith, eqb-true n 0 t, h)) | inr f ↦ f ]

feeds-of : (b : List ℕ) → 0 < length b → missing_feeds b ≡ feeds (ends_with nat_eq b two_feeds) (ends_with nat_eq b (10 ∷ []))
unfolding missing_feeds
feeds-of b h = ap (λ (t : Bool). feeds (t || ends_with nat_eq b two_feeds) (ends_with nat_eq b (10 ∷ []))) (full (length b) h)

feeds-same : (x y : List ℕ) → (0 < length x → 2 ≤ length y) → missing_feeds (x ++ y) ≡ missing_feeds y
feeds-same [] y h = refl
feeds-same (k ∷ ks) y h =
    let some : 0 < length (k ∷ ks) = omega arith in
    let two : 2 ≤ length y = h some in
    let one : 1 ≤ length y = omega arith in
    let more : 0 < length ((k ∷ ks) ++ y) = omega (arith, length-append (k ∷ ks) y) in
    feeds-of ((k ∷ ks) ++ y) more
    ∙ ap (λ (t : Bool). feeds t (ends_with nat_eq ((k ∷ ks) ++ y) (10 ∷ []))) (ends-same (k ∷ ks) y two_feeds two)
    ∙ ap (feeds (ends_with nat_eq y two_feeds)) (ends-same (k ∷ ks) y (10 ∷ []) one)
    ∙ sym (feeds-of y one)

module _ (front end held : List ℕ) where
  pub feeds-held : 2 ≤ length held → missing_feeds held ≡ missing_feeds (front ++ held)
  feeds-held two = sym (feeds-same front held (λ some. two))

  pub feeds-seam : end ≡ end_of front → missing_feeds (end ++ held) ≡ missing_feeds (front ++ held)
  feeds-seam ends =
      let x : List ℕ = take (length front - 2) front in
      let whole : x ++ end ≡ front = ap (λ (l : List ℕ). x ++ l) ends ∙ take-append-drop (length front - 2) front in
      let long : 0 < length x → 2 ≤ length end =
      λ some. omega (arith, some, ap length ends ∙ length-drop (length front - 2) front, sym (length-append x end) ∙ ap length whole) in
      sym
      (ap (λ (l : List ℕ). missing_feeds (l ++ held)) (sym whole) ∙ ap missing_feeds (append_assoc x end held)
      ∙ feeds-same x (end ++ held) (λ some. omega (arith, long some, length-append end held)))

pub texts-added : (front held new name : List ℕ) (list pushed : List (List ℕ)) (change : Change) → change ≡ Add name list → pushed ≡ list
    → new ≡ held ++ missing_feeds (front ++ held) ++ join pushed → (base : List (List ℕ)) → outcome_of (Some (front ++ held)) change base ≡ Ok (Some (front ++ new))
unfolding outcome_of
texts-added front held new name list pushed change is all made base =
    let feeds = missing_feeds (front ++ held) in
    ap (λ (c : Change). outcome_of (Some (front ++ held)) c base) is
    ∙ ap (λ (l : List (List ℕ)). Ok (Some ((front ++ held) ++ feeds ++ join l))) (sym all)
    ∙ ap (λ (l : List ℕ). Ok (Some l))
    (ap (λ (l : List ℕ). l ++ join pushed) (append_assoc front held feeds) ∙ append_assoc front (held ++ feeds) (join pushed) ∙ ap (λ (l : List ℕ). front ++ l) (sym made))

pub bytes-added : (front held new name bytes pushed : List ℕ) (change : Change) → change ≡ AddRaw name bytes → pushed ≡ bytes
    → new ≡ held ++ pushed → (base : List (List ℕ)) → outcome_of (Some (front ++ held)) change base ≡ Ok (Some (front ++ new))
unfolding outcome_of
bytes-added front held new name bytes pushed change is all made base =
    ap (λ (c : Change). outcome_of (Some (front ++ held)) c base) is
    ∙ ap (λ (l : List ℕ). Ok (Some ((front ++ held) ++ l))) (sym all)
    ∙ ap (λ (l : List ℕ). Ok (Some l)) (append_assoc front held pushed ∙ ap (λ (l : List ℕ). front ++ l) (sym made))

pub can-be-added : (change : Change) → is_added change ≡ true → (b : List ℕ) (base : List (List ℕ)) → IsOk (outcome_of (Some b) change base)
unfolding outcome_of
can-be-added (Rewrite name list keep) added b base = absurd (cc)
can-be-added (Front name texts) added b base = absurd (cc)
can-be-added (Add name texts) added b base = refl
can-be-added (AddRaw name bytes) added b base = refl

-- running out of memory hides no change that can't be made
pub memory-explains : (o : Result (Option (List ℕ)) ℕ) (r : Result Unit ChangeError) → IsOk o → (y : ChangeError) × (r ≡ Err y) × (y ≡ Memory)
    → IfErr r (λ e. Explains e o)
memory-explains o r fine p =
    let so : r ≡ Err Memory = p.1 ∙ ap (λ (y : ChangeError). Err y) p.2 in
    subst (λ (x : Result Unit ChangeError). IfErr x (λ e. Explains e o)) (sym so) fine

-- what is held of a file of which bytes stay stands for the whole one
pub part-can : (stay : ℕ) (end : List ℕ) (whole held : Option (List ℕ)) (change : Change) → is_added change ≡ true → (base : List (List ℕ))
    → IsHeldOf (Some stay) end whole held → IsOk (outcome_of whole change base)
part-can stay end whole held change added base is =
    subst (λ (w : Option (List ℕ)). IsOk (outcome_of w change base)) (sym is.6) (can-be-added change added (is.0 ++ is.1) base)

-- a change of the part is one of the whole
pub part-made : (stay : ℕ) (end new b : List ℕ) (whole held : Option (List ℕ)) (change : Change) (base : List (List ℕ)) (is : IsHeldOf (Some stay) end whole held) → held ≡ Some b
    → outcome_of (Some (is.0 ++ b)) change base ≡ Ok (Some (is.0 ++ new)) → MakesHeld (Some stay) end change base whole (Some new)
part-made stay end new b whole held change base is some made =
    let same : is.1 ≡ b = let e : Some is.1 ≡ Some b = sym is.5 ∙ some in cc in
    let w : whole ≡ Some (is.0 ++ b) = is.6 ∙ ap (λ (l : List ℕ). Some (is.0 ++ l)) same in
    (Some (is.0 ++ new), ap (λ (o : Option (List ℕ)). outcome_of o change base) w ∙ made, (is.0, new, is.2, is.3, is.4, refl, refl))
