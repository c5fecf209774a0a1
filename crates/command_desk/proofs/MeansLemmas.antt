-- Answers that are refusals.
use Rattle.std.proofs.Common.{◌≡◌, ℕ, List, ap, ◌∙◌, sym}
use Rattle.std.specs.declared.option.Option.{Option}
use Rattle.std.specs.declared.option.Option.TheVariants.{None}
use Rattle.std.specs.declared.result.Result.TheVariants.{Err}
use Rattle.command_desk.specs.declared.steps.Refusal.{Refusal}
use Rattle.command_desk.specs.declared.steps.Refusal.TheVariants.{Fault, Memory}
use Rattle.command_desk.specs.Answers.{OrFault, Means, IsRefusal, IsRefused, IsRefusedBy, unless}

abbrev pub failed : {A : Type 0} → List ℕ → OrFault A
failed line = Err line

-- a refusal by a line is meant, where that line is
pub means-refusal : {A : Type 0} (r : Refusal) (line : List ℕ) (m : OrFault A) → IsRefusal r line → m ≡ failed line → Means {A = A} (Err r) m
means-refusal (Fault given) line m same is = is ∙ ap (λ (l : List ℕ). Err l) (sym same)
means-refusal Memory line m same is = tt

-- what is refused is meant to be
pub means-refused : {A : Type 0} (r : Refusal) (m : OrFault A) → IsRefused r m → Means {A = A} (Err r) m
means-refused (Fault line) m is = is
means-refused Memory m is = tt

-- what is refused by the line that was found is meant to be
pub means_refused_by : {A : Type 0} (r : Refusal) (found : Option (List ℕ)) (m : OrFault A) → IsRefusedBy r found → Means {A = A} (Err r) (unless found (λ line. line) m)
means_refused_by (Fault line) found m is = ap (λ o. unless o (λ l. l) m) is
means_refused_by Memory found m is = tt

-- where nothing was found that refuses it
pub unless_none : {A : Type 0} (found : Option (List ℕ)) (m : OrFault A) → found ≡ None → unless found (λ line. line) m ≡ m
unless_none found m none = ap (λ o. unless o (λ l. l) m) none
