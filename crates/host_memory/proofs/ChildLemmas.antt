-- What is left of planned answers after a place, and what is given of them.
use Rattle.std.proofs.Common.{◌≡◌, ap, sym, ℕ, List, [], ◌∷◌, ◌+◌, ◌<◌, ◌≤◌, drop, length, arith, subst, Some, IfSome}
use Rattle.std.proofs.lemmas.List.{drop_more, length-take}
use Rattle.std.specs.declared.option.Option.{Option}
use Rattle.host_port.specs.declared.event.ChildAnswer.{ChildAnswer}
use Rattle.host_port.specs.Calls.{output_limit}
use Rattle.host_memory.specs.Children.{next_given}

-- after the next place stands what stands after this one, but for its first
pub drop-next : (d : ChildAnswer) (xs : List ChildAnswer) (n : ℕ) → n < length xs → drop (n + 1) xs ≡ drop 1 (drop n xs)
drop-next d xs n within = sym (ap (λ (l : List ChildAnswer). drop 1 l) (drop_more xs n d within))

-- an output that is given is within the limit
pub given-fits : (xs : List ChildAnswer) → length (next_given xs).output ≤ output_limit
given-fits [] = omega arith
given-fits (a ∷ rest) = omega (arith, length-take output_limit a.output)

-- an answer that is there is the next one given
pub answer-fits : (o : Option ChildAnswer) (a : ChildAnswer) (xs : List ChildAnswer) → o ≡ Some a → IfSome o (λ b. b ≡ next_given xs) → length a.output ≤ output_limit
answer-fits o a xs is given =
    let P : Option ChildAnswer → Type 0 = λ p. IfSome p (λ b. b ≡ next_given xs) in
    let is-next : a ≡ next_given xs = subst P is given in
    rw is-next (given-fits xs)
