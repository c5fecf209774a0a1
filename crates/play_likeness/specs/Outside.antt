-- What a run is given besides its disk, and what it prints.
use Rattle.std.specs.Prelude.{◌≡◌, ℕ, ℤ, true, List, [], ◌∷◌, ◌++◌}
use Rattle.std.specs.declared.option.Option.{Option}
use Rattle.host_port.specs.declared.event.Event.{Event}
use Rattle.host_port.specs.declared.event.Event.TheVariants.{In, Out, Child, Edit, Now}
use Rattle.host_port.specs.declared.event.ChildAnswer.{ChildAnswer}
use Rattle.host_port.specs.declared.event.EditAnswer.{EditAnswer}
use Rattle.session_play.specs.Input.{is_empty}

-- what is still to come: the bytes of the input, what children answer, what editors make of the text that they are given, and the seconds
-- that the clock shows, in order
pub record Outside : Type 0 where
  pub text : List ℕ
  pub children : List (Option ChildAnswer)
  pub edits : List (List ℕ → Option EditAnswer)
  pub times : List ℤ

-- The outside gives what these events take, and leaves the rest. Its text may be cut into events at any places; no bytes stand only for its end.
abbrev pub Gives : Outside → List Event → Outside → Type 0
Gives o [] p = o ≡ p
Gives o (In bytes failed ∷ es) p =
    (rest : List ℕ) × (o.text ≡ bytes ++ rest) × (is_empty bytes ≡ true → rest ≡ []) × Gives (record o { text = rest }) es p
Gives o (Child program args input answer failed ∷ es) p =
    (rest : List (Option ChildAnswer)) × (o.children ≡ answer ∷ rest) × Gives (record o { children = rest }) es p
Gives o (Edit name shell command text answer failed ∷ es) p =
    (edit : List ℕ → Option EditAnswer) × (rest : List (List ℕ → Option EditAnswer)) × (o.edits ≡ edit ∷ rest) × (answer ≡ edit text)
    × Gives (record o { edits = rest }) es p
Gives o (Now seconds ∷ es) p = (rest : List ℤ) × (o.times ≡ seconds ∷ rest) × Gives (record o { times = rest }) es p
Gives o (e ∷ es) p = Gives o es p

-- all bytes that are printed
abbrev pub said : List Event → List ℕ
said [] = []
said (Out bytes failed ∷ es) = bytes ++ said es
said (e ∷ es) = said es
