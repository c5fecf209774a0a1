use Rattle.std.proofs.Common.{◌≡◌, ◌<◌, ℕ, List, Bool, true, false, length, replicate, set, sym, ap, subst, ◌∙◌, inl, inr, arith, length-set}
use Rattle.std.proofs.lemmas.Bool.{cases_eq}
use Rattle.std.proofs.lemmas.List.{length-replicate}
use Rattle.thread_view.specs.Arrays.{is_done, HavePaths}
use Rattle.thread_view.proofs.CycleLemmas.{cut-none, cut-then}
use Rattle.thread_view.proofs.TrailLemmas.{done-start, paths-start}
use Rattle.thread_view.proofs.cycles.cut_cycles.Goals as goal

pub loop-k-init : goal.loop-k-init
loop-k-init c =
    let parents = c.args.parents.items in
    let n = c.len-count.result in
    let size : n ≡ length parents = omega (arith, c.args.parents.ok.0) in
    let some : 0 < n = omega (arith, c.requires.few.0, c.args.parents.ok.0) in
    let dones : c.in_ok-done.done.items ≡ replicate n false = c.in_ok-done.ensures.items_if_clones_equal (λ y h. h) in
    let back : set (replicate n false) 0 true ≡ set c.in_ok-done.done.items 0 true = ap (λ (d : List Bool). set d 0 true) (sym dones) in
    record {
      array = c.requires.array;
      cut = cut-none parents;
      paths = subst (HavePaths parents) back (paths-start parents c.requires.array n size some);
      dones = omega (arith, length-set c.in_ok-done.done.items 0 true, ap length dones, length-replicate n false);
      places = omega (arith, ap length (c.in_ok-places.ensures.items_if_clones_equal (λ y h. h)), length-replicate {A = ℕ} n 0);
      empty = c.in_ok-trail.ensures.items;
      done = subst (λ (d : List Bool). (m : ℕ) → m < 1 → is_done d m ≡ true) back (done-start parents c.requires.array n size some);
    }

pub loop-k-preserved : goal.loop-k-preserved
loop-k-preserved c =
    let inv = c.loop-k.invariant in
    let traced = c.in_ok-trace.ensures in
    let now : c.deref-in-loop-k.result.now ≡ c.trace.new.parents.items = c.deref-in-loop-k.ensures.value in
    record {
      array = traced.array;
      cut = cut-then c.args.parents.items c.loop-k.parents.items inv.cut c.trace.new.parents.items traced.cut;
      paths = subst (λ (p : List ℕ). HavePaths p c.settle.new.done.items) now c.settle.ensures.paths;
      dones = c.settle.ensures.dones ∙ ap length now;
      places = omega (arith, traced.places, traced.cut.size, c.loop-k.parents.ok.0);
      empty = c.settle.ensures.empty;
      done = λ m lt.
          elim (cases_eq m c.loop-k.k) [
            | inl e ↦ ap (is_done c.settle.new.done.items) e ∙ c.settle.ensures.done
            | inr n ↦ c.settle.ensures.kept m (inv.done m (omega arith))
          ];
    }
