-- Threads of rows, from parents that are cut.
use Rattle.std.proofs.Common.{◌≡◌, ℕ, suc, zero, ◌-◌, ◌<◌, ◌≤◌, List, length, slice_index, sym, ap, subst, ◌∙◌, inl, inr, arith, IsPermutation}
use Rattle.std.specs.List.{range_with_len}
use Rattle.message_state.specs.declared.row.Row.{Row}
use Rattle.thread_view.specs.Arrays.{AreCut, AreInThreads, ArePathsIn, IsForest, IsParentArray}
use Rattle.thread_view.specs.Cycles.{above, LosesParent, IsUnder}
use Rattle.thread_view.specs.Naming.{AreParents}
use Rattle.thread_view.specs.Parents.{parent_of}
use Rattle.thread_view.specs.Threads.{IsThreaded}
use Rattle.thread_view.proofs.CycleLemmas.{above-none, above-suc, is_under}
use Rattle.thread_view.proofs.NamingLemmas.{parent-none, parent-within}

pub array-of : (rows : List Row) (parents : List ℕ) → AreParents rows parents → IsParentArray parents
array-of rows parents are = record {
  none = are.each 0 ∙ parent-none rows;
  within = λ k lt. let e = are.each k in let w = parent-within rows k in omega (arith, are.size);
}

-- parents that are the same give the same cuts
module _ (f g : ℕ → ℕ) (same : (k : ℕ) → f k ≡ g k) where
  above-same : (n k : ℕ) → above f n k ≡ above g n k
  above-same zero k = above-none f k ∙ sym (above-none g k)
  above-same (suc n) k = above-suc f n k ∙ above-same n (f k) ∙ ap (above g n) (same k) ∙ sym (above-suc g n k)

  pub loses-same : (k : ℕ) → LosesParent f k → LosesParent g k
  loses-same k loses = (loses.0, sym (above-same (suc loses.0) k) ∙ loses.1, λ m. subst (λ (x : ℕ). k ≤ x) (above-same m k) (loses.2 m))

pub under-same : (f g : ℕ → ℕ) → ((k : ℕ) → f k ≡ g k) → (k p : ℕ) → IsUnder f k p → IsUnder g k p
under-same f g same k p (inl loses) = inl (loses-same f g same k loses.0, loses.1)
under-same f g same k p (inr keeps) = inr ((λ loses. keeps.0 (loses-same g f (λ m. sym (same m)) k loses)), keeps.1 ∙ same k)

pub threaded-from : (rows : List Row) (before parents : List ℕ) (order depth : List ℕ) → AreParents rows before → AreCut before parents → IsParentArray parents → IsForest parents
    → ((path : ℕ → List ℕ) → ArePathsIn parents path → AreInThreads parents path order depth) → IsThreaded rows order depth
threaded-from rows before parents order depth are cut array forest walk =
    let path = forest.0 in
    let paths = forest.1 in
    let found = walk path paths in
    let size : length parents - 1 ≡ length rows = omega (arith, cut.size, are.size) in
    record {
      path = path;
      paths = record {
        none = paths.none;
        each = λ k is.
            let high : k < length parents = omega (arith, is.1, cut.size, are.size) in (
              slice_index parents k,
              under-same (slice_index before) (parent_of rows) are.each k (slice_index parents k)
                  (is_under before parents cut path paths array k is.0 high),
              paths.each k is.0 high,
            );
      };
      once = subst (λ (n : ℕ). IsPermutation (range_with_len 1 n) order) size found.once;
      ascend = found.ascend;
      depths = found.depths;
    }
