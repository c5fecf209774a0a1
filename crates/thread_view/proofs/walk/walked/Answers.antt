use Rattle.std.proofs.Common.{◌≡◌, ◌≢◌, ◌<◌, ◌≤◌, ◌+◌, ◌-◌, ℕ, List, [], ◌∷◌, ◌++◌, length, map, slice_index, sym, ap, subst, ◌∙◌, inl, inr, arith, length-append}
use Rattle.std.proofs.lemmas.List.{get_or_read, map-append}
use Rattle.thread_view.specs.Arrays.{ArePathsIn, IsFollowing, IsForest, IsIn, IsLevel, IsNextUnder, IsParentArray}
use Rattle.thread_view.proofs.ForestLemmas.{long}
use Rattle.thread_view.proofs.WalkLemmas.{IsListed, first-following, level-child, listed-all, listed-more, listed-short, listed-start}
use Rattle.thread_view.proofs.walk.walked.Goals as goal

following-in : (parents : List ℕ) (path : ℕ → List ℕ) (k s : ℕ) → 1 ≤ length parents → IsFollowing parents path k s → s < length parents
following-in parents path k s some (inl n) = let e = n.0 in omega arith
following-in parents path k s some (inr n) = n.0.1

-- the level of a message isn't 0
level-some : (parents : List ℕ) → IsParentArray parents → IsForest parents → (s level : ℕ) → s ≢ 0 → s < length parents → IsLevel parents s level → 1 ≤ level
level-some parents array forest s level some high is =
    let l = is forest.0 forest.1 in
    let up = long parents array forest.0 forest.1 s (omega arith, high) in
    omega arith

more-depths : (path : ℕ → List ℕ) (order : List ℕ) (k level : ℕ) (depth depth_now order_now : List ℕ) → depth ≡ map (λ m. length (path m) - 1) order → length (path k) ≡ level
    → depth_now ≡ depth ++ (level - 1) ∷ [] → order_now ≡ order ++ k ∷ [] → depth_now ≡ map (λ m. length (path m) - 1) order_now
more-depths path order k level depth depth_now order_now old is d o =
    d
    ∙ ap (λ (l : List ℕ). l ++ (level - 1) ∷ []) old
    ∙ ap (λ (n : ℕ). map (λ m. length (path m) - 1) order ++ (n - 1) ∷ []) (sym is)
    ∙ sym (map-append (λ m. length (path m) - 1) order (k ∷ []))
    ∙ ap (map (λ m. length (path m) - 1)) (sym o)

pub loop-k-init : goal.loop-k-init
loop-k-init c =
    let parents = c.args.parents.now in
    let kin = c.args.kin.now in
    let k = c.index-k.result.now in
    let array = c.requires.array in
    let none : c.new-order.result.items ≡ [] = c.new-order.ensures.items in
    let read : k ≡ slice_index kin.first.items 0 = get_or_read kin.first.items 0 k (omega (arith, c.requires.kin.firsts, c.requires.few.0)) c.index-k.ensures 0 in
    let under : IsNextUnder parents 0 0 k = subst (IsNextUnder parents 0 0) (sym read) (c.requires.kin.first_under 0 c.requires.few.0) in
    let next : (path : ℕ → List ℕ) → ArePathsIn parents path → IsFollowing parents path 0 k = λ path paths. first-following parents array path paths k c.requires.few.0 under in
    let high : k < length parents = following-in parents c.requires.forest.0 0 k c.requires.few.0 (next c.requires.forest.0 c.requires.forest.1) in
    record {
      within = high;
      level = λ some path paths. level-child parents array path paths 0 k some under ∙ ap (λ (l : List ℕ). length l + 1) paths.none;
      some = λ some. omega arith;
      low = omega arith;
      short = λ some. omega (arith, ap length none);
      listed = λ path paths. subst (λ (o : List ℕ). IsListed parents path o k) (sym none) (listed-start parents array path paths k (next path paths));
      depths = λ path paths. c.new-depth.ensures.items ∙ ap (map (λ m. length (path m) - 1)) (sym none);
    }

pub loop-k-preserved : goal.loop-k-preserved
loop-k-preserved c =
    let parents = c.args.parents.now in
    let array = c.requires.array in
    let inv = c.loop-k.invariant in
    let k = c.loop-k.k in
    let order = c.loop-k.order.items in
    let some : k ≢ 0 = c.loop-k-test.true in
    let is : IsIn parents k = (omega arith, inv.within) in
    let s = c.following-next.result.0 in
    let now : c.push.new.self.items ≡ order ++ k ∷ [] = c.in_ok-push.ensures.items in
    let next = c.following-next.ensures.next in
    let high : s < length parents = following-in parents c.requires.forest.0 k s c.requires.few.0 (next c.requires.forest.0 c.requires.forest.1) in
    let listed : (path : ℕ → List ℕ) → ArePathsIn parents path → IsListed parents path (order ++ k ∷ []) s =
    λ path paths. listed-more parents array path paths order k is (inv.listed path paths) s (next path paths) in
    let long_now = ap length now ∙ length-append order (k ∷ []) in
    record {
      within = high;
      level = c.following-next.ensures.level;
      some = λ there. level-some parents array c.requires.forest s c.following-next.result.1 there high (c.following-next.ensures.level there);
      low = omega (arith, c.following-next.ensures.low, inv.low);
      short = λ there. let l = listed-short parents array c.requires.forest.0 c.requires.forest.1 (order ++ k ∷ []) s (omega arith, high)
          (listed c.requires.forest.0 c.requires.forest.1) in omega (arith, length-append order (k ∷ []));
      listed = λ path paths. subst (λ (o : List ℕ). IsListed parents path o s) (sym now) (listed path paths);
      depths = λ path paths. more-depths path order k c.loop-k.level c.loop-k.depth.items c.push-in-loop-k.new.self.items c.push.new.self.items
          (inv.depths path paths) (inv.level some path paths) c.in_ok-push-2.ensures.items now;
    }

pub returns : goal.returns
returns c = λ path paths.
    let parents = c.args.parents.now in
    let done : c.loop-k.k ≡ 0 = c.loop-k-test.false in
    let all : IsListed parents path c.loop-k.order.items 0 = subst (IsListed parents path c.loop-k.order.items) done (c.loop-k.invariant.listed path paths) in
    record {
      once = listed-all parents c.requires.array path paths c.loop-k.order.items all;
      ascend = all.ascend;
      depths = c.loop-k.invariant.depths path paths;
    }
