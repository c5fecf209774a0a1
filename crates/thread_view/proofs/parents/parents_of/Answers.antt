use Rattle.std.proofs.Common.{◌≡◌, ◌+◌, ℕ, List, length, slice_index, replicate, refl, sym, ap, ◌∙◌, inl, inr, arith, zero, suc, set, length-set, get_or-set_same, get_or-set_other}
use Rattle.std.proofs.lemmas.Bool.{cases_eq, cases_lt}
use Rattle.std.proofs.lemmas.List.{length-replicate}
use Rattle.thread_view.specs.Parents.{parent_of}
use Rattle.thread_view.proofs.NamingLemmas.{parent-beyond, parent-none, parent-there}
use Rattle.thread_view.proofs.parents.parents_of.Goals as goal

zeros : (n k : ℕ) → slice_index (replicate n 0) k ≡ 0
zeros zero k = refl
zeros (suc n) zero = refl
zeros (suc n) (suc k) = zeros n k

pub loop-p-init : goal.loop-p-init
loop-p-init c =
    let items : c.in_ok-parents.parents.items ≡ replicate (length c.args.rows.now + 1) 0 = c.in_ok-parents.ensures.items_if_clones_equal (λ y h. h) in
    let none : (k : ℕ) → slice_index c.in_ok-parents.parents.items k ≡ 0 = λ k. ap (λ (l : List ℕ). slice_index l k) items ∙ zeros (length c.args.rows.now + 1) k in
    record {
      size = ap length items ∙ length-replicate {A = ℕ} (length c.args.rows.now + 1) 0;
      each = λ k low. let e : k ≡ 0 = omega arith in ap (slice_index c.in_ok-parents.parents.items) e ∙ none 0 ∙ sym (parent-none c.args.rows.now) ∙ ap (λ n. parent_of c.args.rows.now n) (sym e);
      others = λ k high. none k;
    }

pub loop-p-preserved : goal.loop-p-preserved
loop-p-preserved c =
    let rows = c.args.rows.now in
    let p = c.loop-p.p in
    let inv = c.loop-p.invariant in
    let items = c.loop-p.parents.items in
    let value = c.parent_of.result in
    record {
      size = length-set items (p + 1) value ∙ inv.size;
      each = λ k low.
          elim (cases_eq k (p + 1)) [
            | inl e ↦
                ap (slice_index (set items (p + 1) value)) e
                ∙ get_or-set_same items (p + 1) value 0 (omega (arith, inv.size, c.loop-p-test.true))
                ∙ c.parent_of.ensures
                ∙ parent-there rows p c.index-rows-p.result c.loop-p-test.true c.index-rows-p.is
                ∙ ap (parent_of rows) (sym e)
            | inr n ↦ get_or-set_other items (p + 1) k value 0 n ∙ inv.each k (omega arith)
          ];
      others = λ k high. get_or-set_other items (p + 1) k value 0 (λ e. omega arith) ∙ inv.others k (omega arith);
    }

pub returns : goal.returns
returns c =
    let rows = c.args.rows.now in
    let inv = c.loop-p.invariant in
    let end : c.loop-p.p ≡ length rows = omega (arith, c.loop-p-test.false, c.loop-p.auto.p-end) in
    record {
      size = inv.size;
      each = λ k.
          elim (cases_lt (length rows) k) [
            | inl high ↦ inv.others k (omega arith) ∙ sym (parent-beyond rows k high)
            | inr low ↦ inv.each k (omega arith)
          ];
    }
