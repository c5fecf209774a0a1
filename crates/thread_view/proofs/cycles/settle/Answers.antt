use Rattle.std.proofs.Common.{◌≡◌, ℕ, List, ◌++◌, ◌∷◌, [], true, subst, arith, length-set}
use Rattle.thread_view.specs.Arrays.{is_done, end_of, IsTrail, StartsAt}
use Rattle.thread_view.proofs.TrailLemmas.{done-more, end-less, paths-more, starts-less, trail-less}
use Rattle.thread_view.proofs.cycles.settle.Goals as goal

pub loop-message-preserved : goal.loop-message-preserved
loop-message-preserved c =
    let parents = c.args.parents.now in
    let done = c.loop-message.done.items in
    let rest = c.pop.new.self.items in
    let x = c.in-Some.message in
    let k = c.args.k in
    let inv = c.loop-message.invariant in
    let split : c.loop-message.trail.items ≡ rest ++ x ∷ [] = c.in-Some.ensures.items in
    let old : IsTrail parents done (rest ++ x ∷ []) = subst (IsTrail parents done) split inv.trail in
    let start : StartsAt (rest ++ x ∷ []) k = subst (λ (t : List ℕ). StartsAt t k) split inv.start in
    let leads : is_done done (end_of parents (rest ++ x ∷ []) k) ≡ true = subst (λ (t : List ℕ). is_done done (end_of parents t k) ≡ true) split inv.leads in
    record {
      dones = omega (arith, length-set done x true);
      trail = trail-less parents done rest x k old start inv.dones;
      leads = end-less parents done rest x k old start inv.dones;
      start = starts-less parents done rest x k old start inv.dones;
      paths = paths-more parents done rest x k old start inv.dones inv.paths leads;
      kept = λ m was. done-more parents done rest x k old start inv.dones m (inv.kept m was);
    }
