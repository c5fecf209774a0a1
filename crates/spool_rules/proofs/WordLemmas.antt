-- Words that are understood.
use Rattle.std.proofs.Common.{◌≡◌, ◌∙◌, ◌≤◌, ◌<◌, ℕ, List, [], ◌∷◌, length, get_or, sym, ap, arith}
use Rattle.std.specs.Prelude.{Option, Some, None, Bool, true, ◌&&◌, if◌then◌else◌}
use Rattle.spool_rules.specs.declared.words.Operation.{Operation}
use Rattle.spool_rules.specs.Words.{asked, requested, understood, request_of}

pub chosen : (m t : Bool) (o : Option Operation) (operation : Operation) (user token : List ℕ) → m ≡ true → t ≡ true → o ≡ Some operation
    → (if m && t then asked o user token else None) ≡ Some (requested operation user token)
chosen m t o operation user token e f g = rw (e, f, g)

pub refuses : (m t : Bool) (o : Option Operation) (operation : Operation) (user token : List ℕ) → m ≡ true → t ≡ true → o ≡ Some operation → (if m && t then asked o user token else None) ≡ None → ⊥
refuses m t o operation user token e f g none =
    let wrong : Some (requested operation user token) ≡ None = sym (chosen m t o operation user token e f g) ∙ none in
    cc

pub three_words : (words : List (List ℕ)) (w u t : List ℕ) → 3 ≤ length words → length words < 4 → w ≡ get_or words 0 w → u ≡ get_or words 1 u
    → t ≡ get_or words 2 t → understood w u t ≡ request_of words
three_words [] w u t a b e f g = absurd (omega arith)
three_words (x ∷ []) w u t a b e f g = absurd (omega arith)
three_words (x ∷ y ∷ []) w u t a b e f g = absurd (omega arith)
three_words (x ∷ y ∷ z ∷ []) w u t a b e f g = ap (λ (q : List ℕ). understood q u t) e ∙ ap (λ (q : List ℕ). understood x q t) f ∙ ap (λ (q : List ℕ). understood x y q) g
three_words (x ∷ y ∷ z ∷ v ∷ vs) w u t a b e f g = absurd (omega arith)
