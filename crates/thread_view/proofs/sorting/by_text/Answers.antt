use Rattle.std.proofs.Common.{ℕ, Vec, Global, length, refl, nat_cmp}
use Rattle.std.specs.Cmp.Lexicographic.{slice_cmp}
use Rattle.std.proofs.lemmas.Cmp.{nat_list_cmp_total, on_total}
use Rattle.std.proofs.lemmas.Result.{IfOk-weaker}
use Rattle.thread_view.specs.Pairs.{text_of}
use Rattle.thread_view.specs.Parents.{row_at}
use Rattle.thread_view.specs.Sorting.{lower_of}
use Rattle.thread_view.proofs.SortLemmas.{in_order}
use Rattle.thread_view.proofs.sorting.by_text.Goals as goal

pub returns : goal.returns
returns c =
    let rows = c.args.rows.now in
    IfOk-weaker c.numbers_by.result _ _
    (λ order sorts.
    in_order (λ (v : Vec ℕ Global). v.items) (λ x y. slice_cmp nat_cmp x.items y.items) (slice_cmp nat_cmp) (on_total (λ (v : Vec ℕ Global). v.items) nat_list_cmp_total) (λ a b. refl)
    (λ (k : ℕ). lower_of (text_of c.args.key) (row_at rows k)) (length rows) c.in_ok-pairs.pairs.items order.items c.in_ok-pairs.ensures sorts)
    c.numbers_by.ensures
