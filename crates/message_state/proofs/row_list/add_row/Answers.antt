use Rattle.std.proofs.Common.{◌≡◌, List, [], ◌∷◌, ◌++◌, length, sym, ap, ◌∙◌, subst, ◌/◌, Bool, false}
use Rattle.std.specs.declared.result.Result.{Result}
use Rattle.std.specs.declared.result.Result.TheVariants.{Ok, Err}
use Rattle.std.specs.Prelude.{OnOk, OnErr}
use Rattle.mail_text.specs.declared.memory.Memory.{Memory}
use Rattle.message_state.specs.declared.mark.Standing.{Standing}
use Rattle.message_state.specs.declared.mark.Standing.TheVariants.{Live, Dead}
use Rattle.message_state.specs.declared.row.Row.{Row}
use Rattle.message_state.specs.LiveRows.{flag_at, AreWithout, block_size}
use Rattle.message_state.proofs.LiveLemmas.{without-behind, without-fewer}
use Rattle.message_state.proofs.row_list.add_row.Goals as goal

-- whether the row was put there or not
pushed : (s : Standing) (flags : List Bool) (rows now : List Row) (row : Row) (r : Result Unit Memory) → OnOk r (now ≡ rows ++ row ∷ []) → OnErr r (now ≡ rows)
    → AreWithout s flags rows → AreWithout s flags (rows ++ row ∷ []) → AreWithout s flags now
pushed s flags rows now row (Ok u) ok err before more = subst (λ (xs : List Row). AreWithout s flags xs) (sym ok) more
pushed s flags rows now row (Err e) ok err before more = subst (λ (xs : List Row). AreWithout s flags xs) (sym err) before

pub returns-clause-dead : goal.returns-clause-dead
returns-clause-dead c =
    let flags = c.unflag.new.flags.items in
    let rows = c.args.rows.now in
    let without : AreWithout Live flags rows = without-fewer Live rows c.args.dead.now.items flags c.requires.dead c.unflag.ensures.flags in
    let none : flag_at flags (length rows / block_size) ≡ false = ap (λ (xs : List Row). flag_at flags (length xs / block_size)) (sym c.items.ensures) ∙ c.unflag.ensures.unset in
    pushed Live flags rows c.push.new.self c.args.row c.push.result c.push.ensures.ok c.push.ensures.err without (without-behind Live rows flags c.args.row without none)

pub returns-clause-live : goal.returns-clause-live
returns-clause-live c =
    let flags = c.unflag-2.new.flags.items in
    let rows = c.args.rows.now in
    let without : AreWithout Dead flags rows = without-fewer Dead rows c.args.live.now.items flags c.requires.live c.unflag-2.ensures.flags in
    let none : flag_at flags (length rows / block_size) ≡ false = ap (λ (xs : List Row). flag_at flags (length xs / block_size)) (sym c.items.ensures) ∙ c.unflag-2.ensures.unset in
    pushed Dead flags rows c.push.new.self c.args.row c.push.result c.push.ensures.ok c.push.ensures.err without (without-behind Dead rows flags c.args.row without none)
