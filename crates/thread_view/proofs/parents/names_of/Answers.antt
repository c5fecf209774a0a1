use Rattle.std.proofs.Common.{◌≡◌, ℕ, sym, ap, ◌∙◌, arith, unwrap_or, is_eq, nat_cmp}
use Rattle.std.specs.Map.{lookup}
use Rattle.std.specs.Cmp.Lexicographic.{slice_cmp}
use Rattle.message_state.specs.declared.row.Row.{Row}
use Rattle.thread_view.proofs.NamingLemmas.{named_from, named-all, named-none, names-step}
use Rattle.thread_view.proofs.parents.names_of.Goals as goal

pub loop-k-init : goal.loop-k-init
loop-k-init c = record {
  within = omega arith;
  names = λ id. ap (λ es. unwrap_or (lookup (λ key. is_eq (slice_cmp nat_cmp id key.now)) es) 0) c.new-ids.ensures.empty ∙ sym (named-none c.args.rows.now id);
}

pub loop-k-preserved : goal.loop-k-preserved
loop-k-preserved c =
    let rows = c.args.rows.now in
    let k = c.loop-k.k in
    record {
      within = omega (arith, c.loop-k.invariant.within);
      names = λ id. names-step rows k c.index-rows-k.result c.own_id.result c.loop-k.ids c.insert.new.self id
          (omega (arith, c.loop-k-test.true)) c.loop-k.invariant.within c.index-rows-k.is
          (c.own_id.ensures ∙ ap (λ (r : Row). r.texts.own_id) (sym c.index-rows-k.is)) c.in_ok-insert.ensures.updates (c.loop-k.invariant.names id);
    }

pub returns : goal.returns
returns c = λ id.
    let rows = c.args.rows.now in
    let end : c.loop-k.k ≡ 0 = omega (arith, c.loop-k-test.false) in
    c.loop-k.invariant.names id ∙ ap (λ (n : ℕ). named_from rows n id) end ∙ named-all rows id
