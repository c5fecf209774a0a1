-- What is left of planned answers of editors after a place, and what is given of them.
use Rattle.std.proofs.Common.{◌≡◌, ◌∙◌, ap, sym, ℕ, ℤ, List, [], ◌∷◌, suc, ◌+◌, ◌<◌, ◌≤◌, drop, get_or, length, arith, subst, Some, IfSome, IfOk}
use Rattle.std.proofs.Math.Seq.{drop-cons}
use Rattle.std.proofs.lemmas.List.{drop_more, length-take}
use Rattle.std.specs.declared.option.Option.{Option}
use Rattle.std.specs.declared.result.Result.{Result}
use Rattle.std.specs.declared.result.Result.TheVariants.{Ok, Err}
use Rattle.host_port.specs.declared.event.EditAnswer.{EditAnswer}
use Rattle.host_port.specs.Calls.{output_limit}
use Rattle.host_memory.specs.Edits.{edit_given, next_edit}

-- after the next place stands what stands after this one, but for its first
pub drop-next : (d : EditAnswer) (xs : List EditAnswer) (n : ℕ) → n < length xs → drop (n + 1) xs ≡ drop 1 (drop n xs)
drop-next d xs n within = sym (ap (λ (l : List EditAnswer). drop 1 l) (drop_more xs n d within))

-- an answer that is planned there is the one given
pub next-there : (text : List ℕ) (xs : List EditAnswer) (n : ℕ) (a : EditAnswer) → n < length xs → a ≡ get_or xs n a → edit_given a.status a.text a.cut ≡ next_edit text (drop n xs)
next-there text xs n a within here =
    let first : drop n xs ≡ a ∷ drop (suc n) xs = drop-cons xs n a within ∙ ap (λ (x : EditAnswer). x ∷ drop (suc n) xs) (sym here) in
    sym (ap (next_edit text) first)

-- and so a result that gives it gives the next one
pub next-given : {E : Type 0} (text : List ℕ) (xs : List EditAnswer) (n : ℕ) (a : EditAnswer) (status : ℤ) (kept : List ℕ) (r : Result EditAnswer E) → n < length xs → a ≡ get_or xs n a
    → status ≡ a.status → kept ≡ a.text → IfOk r (λ e. e ≡ edit_given status kept a.cut) → IfOk r (λ e. e ≡ next_edit text (drop n xs))
next-given text xs n a status kept (Err fault) within here told same given = tt
next-given text xs n a status kept (Ok e) within here told same given =
    let O : ℤ → Type 0 = λ s. e ≡ edit_given s kept a.cut in
    let P : List ℕ → Type 0 = λ t. e ≡ edit_given a.status t a.cut in
    let Q : EditAnswer → Type 0 = λ x. e ≡ x in
    subst Q (next-there text xs n a within here) (subst P same (subst O told given))

-- a text that is given is within the limit
pub edit-fits : (text : List ℕ) (xs : List EditAnswer) → length (next_edit text xs).text ≤ output_limit
edit-fits text [] = omega (arith, length-take output_limit text)
edit-fits text (a ∷ rest) = omega (arith, length-take output_limit a.text)

-- an answer that is there is the next one given
pub answer-fits : (text : List ℕ) (o : Option EditAnswer) (a : EditAnswer) (xs : List EditAnswer) → o ≡ Some a → IfSome o (λ b. b ≡ next_edit text xs) → length a.text ≤ output_limit
answer-fits text o a xs is given =
    let P : Option EditAnswer → Type 0 = λ p. IfSome p (λ b. b ≡ next_edit text xs) in
    let is-next : a ≡ next_edit text xs = subst P is given in
    rw is-next (edit-fits text xs)
