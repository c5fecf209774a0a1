-- Pages of the view.
use Rattle.std.proofs.Common.{◌≡◌, ◌<◌, ◌≤◌, ◌-◌, ◌*◌, ◌/◌, ℕ, false, length, ap, ⊎_elim, arith}
use Rattle.std.specs.Prelude.{nat_lt, unwrap_or}
use Rattle.std.specs.declared.result.Result.TheVariants.{Err}
use Rattle.std.proofs.Math.Nat.{div-mul-le_self}
use Rattle.std.proofs.lemmas.Bool.{cond-false, cases_Bool, ltb-true}
use Rattle.std.specs.declared.option.Option.{Option}
use Rattle.message_state.specs.ShownRows.{IsShown}
use Rattle.command_desk.specs.declared.desk.Desk.{Desk}
use Rattle.command_desk.specs.Desks.{IsMessageOf}
use Rattle.command_desk.specs.declared.steps.Refusal.{Refusal}
use Rattle.command_desk.specs.declared.steps.Steps.{Steps}
use Rattle.command_desk.specs.Answers.{Means, IsRefusal}
use Rattle.command_desk.specs.Faults.{at_end}
use Rattle.show_commands.specs.Paging.{page_of, turned}
use Rattle.command_desk.proofs.DeskLemmas.{placed}
use Rattle.command_desk.proofs.MeansLemmas.{means-refusal}

-- the page of a message begins in the view
pub start-within : (desk : Desk) (n size : ℕ) → IsShown desk.shown → IsMessageOf desk.shown n → page_of desk n size * size < length desk.shown.order
start-within desk n size valid m =
    let p = placed desk.shown n valid m in
    let same : page_of desk n size * size ≡ p.0 / size * size = ap (λ (o : Option ℕ). unwrap_or o 0 / size * size) p.2 in
    let below = div-mul-le_self p.0 size in
    let within = p.1 in
    omega arith

le-not-lt : (a b : ℕ) → b ≤ a → nat_lt a b ≡ false
le-not-lt a b le = ⊎_elim (λ t. absurd (let lt = ltb-true a b t in omega arith)) (λ f. f) (cases_Bool (nat_lt a b))

-- a page past the end isn't said
pub turned-past : (desk : Desk) (page size : ℕ) (r : Refusal) → length desk.shown.order ≤ page * size → IsRefusal r at_end → Means {A = Steps} (Err r) (turned desk page size)
turned-past desk page size r past said = means-refusal {A = Steps} r at_end (turned desk page size) said (cond-false _ _ _ (le-not-lt (page * size) (length desk.shown.order) past))

-- a number that isn't small is great
pub far : (n : ℕ) → (n < 18446744073709551616 → ⊥) → 18446744073709551616 ≤ n
far n not_small = omega (arith, not_small)
