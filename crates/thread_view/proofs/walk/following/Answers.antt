use Rattle.std.proofs.Common.{◌≡◌, ◌≢◌, ◌<◌, ◌+◌, ℕ, List, [], length, get_or, slice_index, sym, ap, subst, ◌∙◌, arith, append-nil}
use Rattle.std.proofs.lemmas.List.{get_or_read}
use Rattle.thread_view.specs.Arrays.{AreKin, IsFollowing, IsIn, IsNextUnder}
use Rattle.thread_view.proofs.ForestLemmas.{long}
use Rattle.thread_view.proofs.WalkLemmas.{IsWalked, walked-leaf, walked-last, following-none, following-child, following-next, level-child, level-next, on-parent}
use Rattle.thread_view.proofs.walk.following.Goals.{then-loop-x-test+else-index-eq0, else-loop-x-test}
use Rattle.thread_view.proofs.walk.following.Goals as goal

-- who comes first under a message, and next to it, as it was read
first-read : (parents first next : List ℕ) (k child : ℕ) → AreKin parents first next → k < length parents → child ≡ get_or first k child → IsNextUnder parents k 0 child
first-read parents first next k child kin high read =
    subst (IsNextUnder parents k 0) (sym (get_or_read first k child (omega (arith, kin.firsts)) read 0)) (kin.first_under k high)

next-is : (parents first next : List ℕ) (x s : ℕ) → AreKin parents first next → x < length parents → s ≡ get_or next x s → s ≡ slice_index next x
next-is parents first next x s kin high read = get_or_read next x s (omega (arith, kin.nexts)) read 0

next-read : (parents first next : List ℕ) (x s : ℕ) → AreKin parents first next → IsIn parents x → s ≡ get_or next x s → IsNextUnder parents (slice_index parents x) x s
next-read parents first next x s kin is read =
    subst (IsNextUnder parents (slice_index parents x) x) (sym (next-is parents first next x s kin is.1 read)) (kin.next_under x is.0 is.1)

pub returns-then-child-ne0-clause-next : goal.returns-then-child-ne0-clause-next
returns-then-child-ne0-clause-next c = λ path paths.
    let kin = c.args.kin.now in
    following-child c.args.parents.now c.requires.array path paths c.args.k c.index-child.result.now c.requires.message.1 c.if-child-ne0.true
    (first-read c.args.parents.now kin.first.items kin.next.items c.args.k c.index-child.result.now c.requires.kin c.requires.message.1 c.index-child.ensures)

pub returns-then-child-ne0-clause-level : goal.returns-then-child-ne0-clause-level
returns-then-child-ne0-clause-level c = λ some path paths.
    let kin = c.args.kin.now in
    level-child c.args.parents.now c.requires.array path paths c.args.k c.index-child.result.now some
    (first-read c.args.parents.now kin.first.items kin.next.items c.args.k c.index-child.result.now c.requires.kin c.requires.message.1 c.index-child.ensures)
    ∙ ap (λ (n : ℕ). n + 1) (c.requires.level path paths)

pub loop-x-init : goal.loop-x-init
loop-x-init c =
    let kin = c.args.kin.now in
    let parents = c.args.parents.now in
    let none : IsNextUnder parents c.args.k 0 0 =
    subst (IsNextUnder parents c.args.k 0) c.if-child-ne0.false
    (first-read parents kin.first.items kin.next.items c.args.k c.index-child.result.now c.requires.kin c.requires.message.1 c.index-child.ensures) in
    record {
      within = c.requires.message.1;
      level = c.requires.level;
      low = omega arith;
      on = λ path paths. ([], sym (append-nil (path c.args.k)));
      walked = λ path paths. walked-leaf parents c.requires.array path paths c.args.k c.requires.message.1 none;
    }

pub loop-x-preserved : goal.loop-x-preserved
loop-x-preserved c =
    let kin = c.args.kin.now in
    let parents = c.args.parents.now in
    let x = c.loop-x.x in
    let inv = c.loop-x.invariant in
    let some : x ≢ 0 = c.loop-x-test.true in
    let is : IsIn parents x = (omega arith, inv.within) in
    let none : IsNextUnder parents (slice_index parents x) x 0 =
    subst (IsNextUnder parents (slice_index parents x) x) c.if-index-eq0.true (next-read parents kin.first.items kin.next.items x c.index.result.now c.requires.kin is c.index.ensures) in
    record {
      within = c.requires.array.within x inv.within;
      level = λ path paths. let l = inv.level path paths in let up = long parents c.requires.array path paths x is in omega arith;
      low = omega (arith, inv.low);
      on = λ path paths. on-parent parents c.requires.array path paths c.args.k x is (inv.on path paths);
      walked = λ path paths. walked-last parents c.requires.array path paths c.args.k x is none (inv.on path paths) (inv.walked path paths);
    }

pub returns-clause-next : goal.returns-clause-next
returns-clause-next c = λ path paths.
    let kin = c.args.kin.now in
    let parents = c.args.parents.now in
    let x = c.loop-x.x in
    let inv = c.loop-x.invariant in
    let read : c.index-2.result.now ≡ slice_index kin.next.items x = next-is parents kin.first.items kin.next.items x c.index-2.result.now c.requires.kin inv.within c.index-2.ensures in
    elim c.loop-x-test.branch [
      | then-loop-x-test+else-index-eq0 w ↦
          let some : x ≢ 0 = w.loop-x-test.true in
          let is : IsIn parents x = (omega arith, inv.within) in
          let same : w.index.result.now ≡ slice_index kin.next.items x = next-is parents kin.first.items kin.next.items x w.index.result.now c.requires.kin inv.within w.index.ensures in
          following-next parents c.requires.array path paths c.args.k x c.index-2.result.now is (λ e. w.if-index-eq0.false (same ∙ sym read ∙ e))
          (next-read parents kin.first.items kin.next.items x c.index-2.result.now c.requires.kin is c.index-2.ensures)
          (inv.on path paths) (inv.walked path paths)
      | else-loop-x-test w ↦
          let none : x ≡ 0 = w.loop-x-test.false in
          subst (IsFollowing parents path c.args.k) (sym (read ∙ ap (slice_index kin.next.items) none ∙ c.requires.kin.none_next))
          (following-none parents c.requires.array path paths c.args.k (subst (IsWalked parents path c.args.k) none (inv.walked path paths)))
    ]

pub returns-clause-level : goal.returns-clause-level
returns-clause-level c = λ found path paths.
    let kin = c.args.kin.now in
    let parents = c.args.parents.now in
    let x = c.loop-x.x in
    let inv = c.loop-x.invariant in
    let read : c.index-2.result.now ≡ slice_index kin.next.items x = next-is parents kin.first.items kin.next.items x c.index-2.result.now c.requires.kin inv.within c.index-2.ensures in
    let some : x ≢ 0 = λ e. found (read ∙ ap (slice_index kin.next.items) e ∙ c.requires.kin.none_next) in
    let is : IsIn parents x = (omega arith, inv.within) in
    level-next parents c.requires.array path paths x c.index-2.result.now is found
    (next-read parents kin.first.items kin.next.items x c.index-2.result.now c.requires.kin is c.index-2.ensures)
    ∙ inv.level path paths
