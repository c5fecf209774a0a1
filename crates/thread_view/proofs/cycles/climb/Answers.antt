use Rattle.std.proofs.Common.{◌≡◌, ◌≢◌, ◌≤◌, ◌<◌, ℕ, true, false, length, slice_index, sym, ap, subst, ◌∙◌, arith, true≢false, length-set, length-append, List, Bool, slice_set, ◌++◌, ◌∷◌, [], inl, inr}
use Rattle.std.proofs.lemmas.Bool.{cases_eq}
use Rattle.thread_view.specs.Arrays.{is_done, ArePlaces, IsTrail, StartsAt, end_of}
use Rattle.thread_view.proofs.TrailLemmas.{end-more, places-more, starts-more, trail-more, trail-short}
use Rattle.thread_view.proofs.cycles.climb.Goals as goal

pub overflow_cast-len : goal.overflow_cast-len
overflow_cast-len c =
    omega (arith, trail-short c.args.parents.now c.args.done.now c.loop-x.trail.items c.loop-x.invariant.trail, c.requires.few, c.loop-x.trail.ok.0)

-- x isn't none, and isn't on the trail
some : (done : List Bool) (x : ℕ) → is_done done 0 ≡ true → is_done done x ≡ false → 1 ≤ x
some done x none not_done =
    elim (cases_eq x 0) [
      | inl e ↦ absurd (true≢false (sym none ∙ ap (is_done done) (sym e) ∙ not_done))
      | inr n ↦ omega arith
    ]

away : (places trail places_now trail_now : List ℕ) (x : ℕ) (on : Bool) → places_now ≡ places → trail_now ≡ trail → ArePlaces places trail → on ≡ false
    → (ArePlaces places_now trail_now → on ≡ false → (i : ℕ) → i < length trail_now → slice_index trail_now i ≢ x)
    → (i : ℕ) → i < length trail → slice_index trail i ≢ x
away places trail places_now trail_now x on same_places same_trail noted off not_on =
    subst (λ (t : List ℕ). (i : ℕ) → i < length t → slice_index t i ≢ x) same_trail
    (not_on (subst (λ (p : List ℕ). ArePlaces p trail_now) (sym same_places) (subst (ArePlaces places) (sym same_trail) noted)) off)

pub loop-x-smaller : goal.loop-x-smaller
loop-x-smaller c =
    let x = c.loop-x.x in
    let trail = c.loop-x.trail.items in
    let inv = c.loop-x.invariant in
    let not_done : is_done c.args.done.now x ≡ false = c.loop-x-test.true in
    let off = away c.loop-x.places.items trail c.deref.result.now c.deref-in-loop-x.result.now x c.is_on.result c.deref.ensures.value
    c.deref-in-loop-x.ensures.value inv.noted c.if-is_on.false c.is_on.ensures.no in
    let longer = trail-short c.args.parents.now c.args.done.now (trail ++ x ∷ [])
    (trail-more trail x c.args.parents.now c.args.done.now c.args.k inv.trail inv.leads (some c.args.done.now x c.requires.none not_done) inv.within not_done off) in
    let long = length-append trail (x ∷ []) in
    let pushed = ap length c.in_ok-push.ensures.items in
    omega arith

pub loop-x-preserved : goal.loop-x-preserved
loop-x-preserved c =
    let x = c.loop-x.x in
    let trail = c.loop-x.trail.items in
    let inv = c.loop-x.invariant in
    let parents = c.args.parents.now in
    let k = c.args.k in
    let not_done : is_done c.args.done.now x ≡ false = c.loop-x-test.true in
    let off = away c.loop-x.places.items trail c.deref.result.now c.deref-in-loop-x.result.now x c.is_on.result c.deref.ensures.value
    c.deref-in-loop-x.ensures.value inv.noted c.if-is_on.false c.is_on.ensures.no in
    let low = some c.args.done.now x c.requires.none not_done in
    let now : c.push.new.self.items ≡ trail ++ x ∷ [] = c.in_ok-push.ensures.items in
    let count : c.len.result ≡ length trail = omega (arith, c.loop-x.trail.ok.0) in
    record {
      size = omega (arith, length-set c.loop-x.places.items x c.len.result);
      within = c.requires.array.within x inv.within;
      trail = subst (IsTrail parents c.args.done.now) (sym now) (trail-more trail x parents c.args.done.now k inv.trail inv.leads low inv.within not_done off);
      start = subst (λ (t : List ℕ). StartsAt t k) (sym now) (starts-more trail x parents k inv.start inv.leads);
      leads = ap (λ (t : List ℕ). end_of parents t k) now ∙ end-more trail x parents k;
      noted = subst (λ (t : List ℕ). ArePlaces (slice_set c.loop-x.places.items x c.len.result) t) (sym now)
          (subst (λ (n : ℕ). ArePlaces (slice_set c.loop-x.places.items x n) (trail ++ x ∷ [])) (sym count) (places-more trail x c.loop-x.places.items inv.noted (omega arith) off));
    }
