-- Each view has each message once, and a depth for each place.
use Rattle.std.proofs.Common.{◌≡◌, ℕ, List, length, sym, ap, subst, ◌∙◌}
use Rattle.std.proofs.lemmas.List.{length-map, length-replicate}
use Rattle.std.proofs.lemmas.List.FromFn.{length-range_with_len}
use Rattle.std.proofs.lemmas.List.Sorted.{IsPermutation-refl, length_permutation}
use Rattle.std.specs.Prelude.{replicate}
use Rattle.std.specs.List.{range_with_len}
use Rattle.std.specs.List.Sorted.{IsPermutation}
use Rattle.message_state.specs.declared.row.Row.{Row}
use Rattle.thread_view.specs.declared.view.Key.{Key}
use Rattle.thread_view.specs.declared.view.Key.TheVariants as key
use Rattle.thread_view.specs.declared.view.View.{View}
use Rattle.thread_view.specs.declared.view.ViewKind.{ViewKind}
use Rattle.thread_view.specs.declared.view.ViewKind.TheVariants.{Plain, Threads, By}
use Rattle.thread_view.specs.Sorting.{IsSortedBy}
use Rattle.thread_view.specs.Views.{IsViewOf}

abbrev once : List Row → View → Type 0
once rows view = IsPermutation (range_with_len 1 (length rows)) view.order

pub sorted-once : (k : Key) (rows : List Row) (order : List ℕ) → IsSortedBy k rows order → IsPermutation (range_with_len 1 (length rows)) order
sorted-once key.Date rows order is = is.once
sorted-once key.From rows order is = is.once
sorted-once key.Size rows order is = is.once
sorted-once key.Status rows order is = is.once
sorted-once key.Subject rows order is = is.once
sorted-once key.To rows order is = is.once

pub view-once : (kind : ViewKind) (rows : List Row) (view : View) → IsViewOf kind rows view → once rows view
view-once Plain rows view is =
    let P : List ℕ → Type 0 = λ order. IsPermutation (range_with_len 1 (length rows)) order in
    subst P (sym is.1.0) (IsPermutation-refl (range_with_len 1 (length rows)))
view-once Threads rows view is = is.1.once
view-once (By k) rows view is = sorted-once k rows view.order is.1.0

-- as many depths as messages
depths-same : (rows : List Row) (view : View) → once rows view → view.depth ≡ replicate (length rows) 0 → length view.depth ≡ length view.order
depths-same rows view h is =
    ap (λ (ds : List ℕ). length ds) is ∙ length-replicate (length rows) 0
    ∙ sym (length_permutation (range_with_len 1 (length rows)) view.order h ∙ length-range_with_len 1 (length rows))

pub view-depths : (kind : ViewKind) (rows : List Row) (view : View) → IsViewOf kind rows view → length view.depth ≡ length view.order
view-depths Plain rows view is = depths-same rows view (view-once Plain rows view is) is.1.1
view-depths Threads rows view is = ap (λ (ds : List ℕ). length ds) is.1.depths ∙ length-map view.order _
view-depths (By k) rows view is = depths-same rows view (sorted-once k rows view.order is.1.0) is.1.1
