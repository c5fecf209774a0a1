use Rattle.std.proofs.Common.{◌≡◌, ◌≤◌, ◌<◌, ℕ, List, length, slice_index, slice_set, sym, subst}
use Rattle.std.proofs.lemmas.List.{get_or_read}
use Rattle.thread_view.specs.Arrays.{AreCut, IsTrail}
use Rattle.thread_view.proofs.TrailLemmas.{cut-least, trail-cut}
use Rattle.thread_view.proofs.cycles.cut.Goals as goal

-- what was found of the trail as it was read
record Found (trail : List ℕ) (start least message : ℕ) : Type 0 where
  low : start ≤ least
  high : least < length trail
  below : (i : ℕ) → start ≤ i → i < length trail → slice_index trail least ≤ slice_index trail i
  read : message ≡ slice_index trail least

found : (trail read : List ℕ) (start least message : ℕ) → read ≡ trail → (start ≤ least) × (least < length read)
    → ((i : ℕ) → start ≤ i → i < length read → slice_index read least ≤ slice_index read i)
    → ((high : least < length trail) → message ≡ slice_index trail least) → Found trail start least message
found trail read start least message same within below at =
    let high : least < length trail = subst (λ (t : List ℕ). least < length t) same within.1 in
    record {
      low = within.0;
      high = high;
      below = subst (λ (t : List ℕ). (i : ℕ) → start ≤ i → i < length t → slice_index t least ≤ slice_index t i) same below;
      read = at high;
    }

pub returns-clause-cut : goal.returns-clause-cut
returns-clause-cut c =
    let parents = c.args.parents.now.items in
    let trail = c.args.trail.now.items in
    let least = c.least_from-least.result in
    let f : Found trail c.args.start least c.index-message.result.now =
    found trail c.deref.result.now c.args.start least c.index-message.result.now c.deref.ensures.value c.least_from-least.ensures.within
    c.least_from-least.ensures.least (λ high. get_or_read trail least c.index-message.result.now high c.index-message.ensures 0) in
    subst (λ (m : ℕ). AreCut parents (slice_set parents m 0)) (sym f.read)
    (cut-least parents c.args.done.now trail c.args.start least c.args.k c.requires.trail f.low f.high c.requires.cycle f.below)

pub returns-clause-trail : goal.returns-clause-trail
returns-clause-trail c =
    let parents = c.args.parents.now.items in
    let trail = c.args.trail.now.items in
    let least = c.least_from-least.result in
    let f : Found trail c.args.start least c.index-message.result.now =
    found trail c.deref.result.now c.args.start least c.index-message.result.now c.deref.ensures.value c.least_from-least.ensures.within
    c.least_from-least.ensures.least (λ high. get_or_read trail least c.index-message.result.now high c.index-message.ensures 0) in
    subst (λ (m : ℕ). IsTrail (slice_set parents m 0) c.args.done.now c.truncate.new.self.items) (sym f.read)
    (subst (IsTrail (slice_set parents (slice_index trail least) 0) c.args.done.now) (sym c.truncate.ensures.items)
    (trail-cut parents c.args.done.now trail c.args.start least c.args.k c.requires.trail f.low f.high c.requires.cycle f.below))
