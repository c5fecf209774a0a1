-- The names that an expansion adds are reached, and those that are reached are added.
use Rattle.std.proofs.Common.{◌≡◌, ◌≤◌, ◌<◌, ◌+◌, ℕ, zero, suc, List, [], ◌∷◌, ◌++◌, length, refl, sym, ap, subst, ◌∙◌, true, false, Bool, arith, ⊎_elim, true≢false}
use Rattle.std.specs.Prelude.{if◌then◌else◌, ◌||◌, ◌&&◌, is_some}
use Rattle.std.specs.declared.option.Option.{Option}
use Rattle.std.specs.declared.option.Option.TheVariants.{Some, None}
use Rattle.std.specs.List.{All, Contains}
use Rattle.std.specs.Str.{bytes_eq}
use Rattle.std.proofs.lemmas.List.Elements.{All-nil, All-cons, All-head, All-tail, All-push, All-weaker, All-contains, All-contains_itself}
use Rattle.alias_groups.specs.Expansion.{dropped_names, expansion}
use Rattle.alias_groups.specs.Groups.{Group, is_alias, members_of}
use Rattle.alias_groups.specs.Unwinding.{fresh, one_each}
use Rattle.alias_groups.specs.Walk.{Walked, closed, is_among, is_within, met, met_all, named, nothing, walk}
use Rattle.alias_groups.proofs.FreshLemmas.{alias-new, alias-old, among-new, among-old, among-split, fresh-begun, fresh-less, or-left, or-right, or-split}
use Rattle.alias_groups.proofs.SameLemmas.{same-refl, to-same}
use Rattle.alias_groups.proofs.WalkLemmas.{Names}
use Rattle.name_lists.specs.Names.{has_name, with_name}
use Rattle.leaf_laws.proofs.NameLemmas.{has-put, has-with}
use Rattle.leaf_laws.specs.Reaching.{AddedAreReached, GivenAreAdded, Reached, ReachedAreAdded, given, member}

-- ---- nobody else
module _ (P : List ℕ → Type 0) where
  all-with_name : (names : Names) (name : List ℕ) → All P names → P name → All P (with_name names name)
  all-with_name names name h p = go (has_name names name)
    where
      go : (b : Bool) → All P (if b then names else names ++ name ∷ [])
      go true = h
      go false = All-push P names name h p

  all-named : (dropped opened : Names) (name : List ℕ) (w : Walked) → All P w.added → P name → All P (named dropped opened name w).added
  all-named dropped opened name w h p = go (is_within opened && has_name dropped name)
    where
      go : (b : Bool) → All P (if b then w else record w { added = with_name w.added name }).added
      go true = h
      go false = all-with_name w.added name h p

module _ (groups : List Group) (first : Names) where
  reached-members : (alias : List ℕ) (members : Names) → Reached groups first alias → members_of groups alias ≡ Some members → All (Reached groups first) members
  reached-members alias members r is = All-weaker (Contains members) (Reached groups first) (λ name within. member r is within) members (All-contains_itself members)

  abbrev KeepsReached : (Names → Names → Walked → Walked) → Type 0
  KeepsReached through = (opened names : Names) (w : Walked) → All (Reached groups first) names → All (Reached groups first) w.added → All (Reached groups first) (through opened names w).added

  reached-met : (through : Names → Names → Walked → Walked) → KeepsReached through → (dropped opened : Names) (name : List ℕ) (members : Option Names) (w : Walked)
      → members_of groups name ≡ members → Reached groups first name → All (Reached groups first) w.added → All (Reached groups first) (met through dropped opened name members w).added
  reached-met through keeps dropped opened name None w is r h = all-named (Reached groups first) dropped opened name w h r
  reached-met through keeps dropped opened name (Some these) w is r h = go (is_among opened name) (is_among w.over name)
    where
      go : (b o : Bool) → All (Reached groups first) (if b then named dropped opened name w else if o then w else closed name (through (opened ++ name ∷ []) these w)).added
      go true o = all-named (Reached groups first) dropped opened name w h r
      go false true = h
      go false false = keeps (opened ++ name ∷ []) these w (reached-members name these r is) h

  reached-met_all : (through : Names → Names → Walked → Walked) → KeepsReached through → (dropped opened names : Names) (w : Walked)
      → All (Reached groups first) names → All (Reached groups first) w.added → All (Reached groups first) (met_all through groups dropped opened names w).added
  reached-met_all through keeps dropped opened [] w all h = h
  reached-met_all through keeps dropped opened (name ∷ names) w all h =
      reached-met_all through keeps dropped opened names (met through dropped opened name (members_of groups name) w) (All-tail (Reached groups first) name names all)
      (reached-met through keeps dropped opened name (members_of groups name) w refl (All-head (Reached groups first) name names all) h)

  reached-walk : (depth : ℕ) (dropped : Names) → KeepsReached (walk depth groups dropped)
  unfolding walk
  reached-walk zero dropped opened names w all h = h
  reached-walk (suc depth) dropped opened names w all h = reached-met_all (walk depth groups dropped) (reached-walk depth dropped) dropped opened names w all h

pub added-are-reached : AddedAreReached
added-are-reached groups own metoo names name within =
    All-contains (Reached groups names) (expansion groups own metoo names) name
    (reached-walk groups names (suc (length groups)) (dropped_names own metoo) [] names nothing
    (All-weaker (Contains names) (Reached groups names) (λ n h. given h) names (All-contains_itself names)) (All-nil (Reached groups names)))
    within

-- ---- names stay, and the one that is put is there
has-named : (dropped opened : Names) (name : List ℕ) (w : Walked) (q : List ℕ) → has_name w.added q ≡ true → has_name (named dropped opened name w).added q ≡ true
has-named dropped opened name w q h = go (is_within opened && has_name dropped name)
  where
    go : (b : Bool) → has_name (if b then w else record w { added = with_name w.added name }).added q ≡ true
    go true = h
    go false = has-with w.added name q h

over-named : (dropped opened : Names) (name : List ℕ) (w : Walked) → (named dropped opened name w).over ≡ w.over
over-named dropped opened name w = go (is_within opened && has_name dropped name)
  where
    go : (b : Bool) → (if b then w else record w { added = with_name w.added name }).over ≡ w.over
    go true = refl
    go false = refl

put-named : (dropped opened : Names) (name : List ℕ) (w : Walked) → has_name dropped name ≡ false → has_name (named dropped opened name w).added name ≡ true
put-named dropped opened name w apart = go (is_within opened) (has_name dropped name) apart
  where
    go : (a b : Bool) → b ≡ false → has_name (if a && b then w else record w { added = with_name w.added name }).added name ≡ true
    go true true h = absurd (true≢false h)
    go true false h = has-put w.added name
    go false b h = has-put w.added name

-- ---- given names, outside of aliases
abbrev KeepsAdded : (Names → Names → Walked → Walked) → Type 0
KeepsAdded through = (opened names : Names) (w : Walked) (q : List ℕ) → has_name w.added q ≡ true → has_name (through opened names w).added q ≡ true

kept-met : (through : Names → Names → Walked → Walked) → KeepsAdded through → (dropped opened : Names) (name : List ℕ) (members : Option Names) (w : Walked) (q : List ℕ)
    → has_name w.added q ≡ true → has_name (met through dropped opened name members w).added q ≡ true
kept-met through keeps dropped opened name None w q h = has-named dropped opened name w q h
kept-met through keeps dropped opened name (Some these) w q h = go (is_among opened name) (is_among w.over name)
  where
    go : (b o : Bool) → has_name (if b then named dropped opened name w else if o then w else closed name (through (opened ++ name ∷ []) these w)).added q ≡ true
    go true o = has-named dropped opened name w q h
    go false true = h
    go false false = keeps (opened ++ name ∷ []) these w q h

kept-met_all : (through : Names → Names → Walked → Walked) → KeepsAdded through → (groups : List Group) (dropped opened names : Names) (w : Walked) (q : List ℕ)
    → has_name w.added q ≡ true → has_name (met_all through groups dropped opened names w).added q ≡ true
kept-met_all through keeps groups dropped opened [] w q h = h
kept-met_all through keeps groups dropped opened (name ∷ names) w q h =
    kept-met_all through keeps groups dropped opened names (met through dropped opened name (members_of groups name) w) q
    (kept-met through keeps dropped opened name (members_of groups name) w q h)

kept-walk : (depth : ℕ) (groups : List Group) (dropped : Names) → KeepsAdded (walk depth groups dropped)
unfolding walk
kept-walk zero groups dropped opened names w q h = h
kept-walk (suc depth) groups dropped opened names w q h = kept-met_all (walk depth groups dropped) (kept-walk depth groups dropped) groups dropped opened names w q h

outer-met : (through : Names → Names → Walked → Walked) (dropped : Names) (name : List ℕ) (members : Option Names) (w : Walked)
    → is_some members ≡ false → has_name (met through dropped [] name members w).added name ≡ true
outer-met through dropped name None w none = has-put w.added name
outer-met through dropped name (Some these) w none = absurd (true≢false none)

-- each of these names that is no alias is among those that were added
abbrev IsPut : List Group → Walked → List ℕ → Type 0
IsPut groups v q = is_alias groups q ≡ false → has_name v.added q ≡ true

outer-met_all : (through : Names → Names → Walked → Walked) → KeepsAdded through → (groups : List Group) (dropped names : Names) (w : Walked)
    → All (IsPut groups (met_all through groups dropped [] names w)) names
outer-met_all through keeps groups dropped [] w = All-nil (IsPut groups w)
outer-met_all through keeps groups dropped (name ∷ names) w =
    let next : Walked = met through dropped [] name (members_of groups name) w in
    All-cons (IsPut groups (met_all through groups dropped [] names next)) name names
    (λ none. kept-met_all through keeps groups dropped [] names next name (outer-met through dropped name (members_of groups name) w none))
    (outer-met_all through keeps groups dropped names next)

outer-walk : (depth : ℕ) (groups : List Group) (dropped names : Names) (w : Walked) → All (IsPut groups (walk (suc depth) groups dropped [] names w)) names
unfolding walk
outer-walk depth groups dropped names w = outer-met_all (walk depth groups dropped) (kept-walk depth groups dropped) groups dropped names w

pub given-are-added : GivenAreAdded
given-are-added groups own metoo names name within =
    All-contains (IsPut groups (walk (suc (length groups)) groups (dropped_names own metoo) [] names nothing)) names name
    (outer-walk (length groups) groups (dropped_names own metoo) names nothing) within

-- ---- nobody is lost
abbrev open_or_over : Names → Walked → List ℕ → Bool
open_or_over opened w q = is_among opened q || is_among w.over q

-- the aliases that can still be opened
abbrev can_open : List Group → Names → Walked → ℕ
can_open groups opened w = fresh (open_or_over opened w) one_each groups

can-later : (groups : List Group) (opened : Names) (w v : Walked) → ((q : List ℕ) → is_among w.over q ≡ true → is_among v.over q ≡ true) → can_open groups opened v ≤ can_open groups opened w
can-later groups opened w v more =
    fresh-less (open_or_over opened w) (open_or_over opened v) one_each
    (λ q h. ⊎_elim (λ o. or-left _ _ o) (λ o. or-right (is_among opened q) _ (more q o)) (or-split _ _ h)) groups

can-opened : (groups : List Group) (opened : Names) (name : List ℕ) (these : Names) (w : Walked) → members_of groups name ≡ Some these → is_among opened name ≡ false → is_among w.over name ≡ false
    → can_open groups (opened ++ name ∷ []) w + 1 ≤ can_open groups opened w
can-opened groups opened name these w some outside apart =
    fresh-begun (open_or_over opened w) (open_or_over (opened ++ name ∷ []) w) one_each
    (λ q h. ⊎_elim (λ o. or-left _ _ (among-old opened name q o)) (λ o. or-right (is_among (opened ++ name ∷ []) q) _ o) (or-split _ _ h))
    name these
    (ap (λ (b : Bool). b || is_among w.over name) outside ∙ apart)
    (or-left _ _ (among-new opened name name (same-refl name)))
    groups some

can-all : (groups : List Group) → can_open groups [] nothing ≤ length groups
can-all [] = omega arith
can-all (g ∷ gs) = let rest = can-all gs in omega arith

module _ (groups : List Group) (dropped : Names) where
  -- the walk of an alias is open or over; another name was added, or is to be dropped
  record IsSettled (opened : Names) (w : Walked) (q : List ℕ) : Type 0 where
    alias : (these : Names) → members_of groups q ≡ Some these → open_or_over opened w q ≡ true
    name : members_of groups q ≡ None → has_name dropped q ≡ false → has_name w.added q ≡ true

  -- the members of each alias whose walk is over are settled
  abbrev AreWalked : Names → Walked → Type 0
  AreWalked opened w = (alias : List ℕ) (these : Names) → is_among w.over alias ≡ true → members_of groups alias ≡ Some these → All (IsSettled opened w) these

  -- nothing that was met is forgotten
  record IsLater (w v : Walked) : Type 0 where
    over : (q : List ℕ) → is_among w.over q ≡ true → is_among v.over q ≡ true
    added : (q : List ℕ) → has_name w.added q ≡ true → has_name v.added q ≡ true

  -- from one walk another came, in which these names are settled
  record Settles (opened names : Names) (w v : Walked) : Type 0 where
    later : IsLater w v
    walked : AreWalked opened v
    settled : All (IsSettled opened v) names

  later-same : (w : Walked) → IsLater w w
  later-same w = record { over = (λ q h. h); added = (λ q h. h) }

  later-then : (u w v : Walked) → IsLater u w → IsLater w v → IsLater u v
  later-then u w v a b = record { over = (λ q h. b.over q (a.over q h)); added = (λ q h. b.added q (a.added q h)) }

  settled-later : (opened : Names) (w v : Walked) → IsLater w v → (q : List ℕ) → IsSettled opened w q → IsSettled opened v q
  settled-later opened w v later q s = record {
    alias = (λ these is. ⊎_elim (λ o. or-left _ _ o) (λ o. or-right (is_among opened q) _ (later.over q o)) (or-split _ _ (s.alias these is)));
    name = (λ none apart. later.added q (s.name none apart));
  }

  settled-inside : (opened : Names) (name : List ℕ) (w : Walked) (q : List ℕ) → IsSettled opened w q → IsSettled (opened ++ name ∷ []) w q
  settled-inside opened name w q s = record {
    alias = (λ these is. ⊎_elim (λ o. or-left _ _ (among-old opened name q o)) (λ o. or-right (is_among (opened ++ name ∷ []) q) _ o) (or-split _ _ (s.alias these is)));
    name = s.name;
  }

  -- an alias that was open is over now
  settled-closed : (opened : Names) (name : List ℕ) (v : Walked) (q : List ℕ) → IsSettled (opened ++ name ∷ []) v q → IsSettled opened (closed name v) q
  settled-closed opened name v q s = record {
    alias = (λ these is.
        ⊎_elim
        (λ o. ⊎_elim (λ old. or-left _ _ old) (λ same. or-right (is_among opened q) _ (alias-new v.over name q same)) (among-split opened name q o))
        (λ o. or-right (is_among opened q) _ (alias-old v.over name q o))
        (or-split _ _ (s.alias these is)));
    name = s.name;
  }

  later-named : (opened : Names) (name : List ℕ) (w : Walked) → IsLater w (named dropped opened name w)
  later-named opened name w = record {
    over = (λ q h. ap (λ (l : Names). is_among l q) (over-named dropped opened name w) ∙ h);
    added = has-named dropped opened name w;
  }

  later-closed : (name : List ℕ) (v : Walked) → IsLater v (closed name v)
  later-closed name v = record { over = (λ q h. alias-old v.over name q h); added = (λ q h. h) }

  abbrev Walks : ℕ → (Names → Names → Walked → Walked) → Type 0
  Walks depth through = (opened names : Names) (w : Walked) → can_open groups opened w < depth → AreWalked opened w → Settles opened names w (through opened names w)

  -- a name that is no alias
  settles-named : (opened : Names) (name : List ℕ) (w : Walked) → members_of groups name ≡ None → AreWalked opened w → Settles opened (name ∷ []) w (named dropped opened name w)
  settles-named opened name w none h =
      let later = later-named opened name w in
      record {
        later = later;
        walked = (λ alias these over is. All-weaker (IsSettled opened w) (IsSettled opened (named dropped opened name w)) (settled-later opened w (named dropped opened name w) later) these
            (h alias these (ap (λ (l : Names). is_among l alias) (sym (over-named dropped opened name w)) ∙ over) is));
        settled = All-cons (IsSettled opened (named dropped opened name w)) name []
            (record { alias = (λ these is. absurd (cc (none, is))); name = (λ n apart. put-named dropped opened name w apart) }) (All-nil (IsSettled opened (named dropped opened name w)));
      }

  -- an alias inside of its own walk
  settles-inside : (opened : Names) (name : List ℕ) (these : Names) (w : Walked) → members_of groups name ≡ Some these → is_among opened name ≡ true → AreWalked opened w
      → Settles opened (name ∷ []) w (named dropped opened name w)
  settles-inside opened name these w some inside h =
      let later = later-named opened name w in
      record {
        later = later;
        walked = (λ alias those over is. All-weaker (IsSettled opened w) (IsSettled opened (named dropped opened name w)) (settled-later opened w (named dropped opened name w) later) those
            (h alias those (ap (λ (l : Names). is_among l alias) (sym (over-named dropped opened name w)) ∙ over) is));
        settled = All-cons (IsSettled opened (named dropped opened name w)) name []
            (record { alias = (λ those is. or-left _ _ inside); name = (λ none apart. absurd (cc (none, some))) }) (All-nil (IsSettled opened (named dropped opened name w)));
      }

  -- an alias whose walk is over
  settles-over : (opened : Names) (name : List ℕ) (these : Names) (w : Walked) → members_of groups name ≡ Some these → is_among w.over name ≡ true → AreWalked opened w → Settles opened (name ∷ []) w w
  settles-over opened name these w some over h = record {
    later = later-same w;
    walked = h;
    settled = All-cons (IsSettled opened w) name []
        (record { alias = (λ those is. or-right (is_among opened name) _ over); name = (λ none apart. absurd (cc (none, some))) }) (All-nil (IsSettled opened w));
  }

  -- an alias that was walked through
  settles-through : (opened : Names) (name : List ℕ) (these : Names) (w v : Walked) → members_of groups name ≡ Some these
      → Settles (opened ++ name ∷ []) these w v → Settles opened (name ∷ []) w (closed name v)
  settles-through opened name these w v some s =
      record {
        later = later-then w v (closed name v) s.later (later-closed name v);
        walked = (λ alias those over is. All-weaker (IsSettled (opened ++ name ∷ []) v) (IsSettled opened (closed name v)) (settled-closed opened name v) those (walked-there alias those over is));
        settled = All-cons (IsSettled opened (closed name v)) name []
            (record {
              alias = (λ those is. or-right (is_among opened name) _ (alias-new v.over name name (same-refl name)));
              name =
                  (λ none apart. absurd (cc (none, some)));
            }) (All-nil (IsSettled opened (closed name v)));
      }
    where
      walked-there : (alias : List ℕ) (those : Names) → is_among (closed name v).over alias ≡ true → members_of groups alias ≡ Some those → All (IsSettled (opened ++ name ∷ []) v) those
      walked-there alias those over is = go (is_among v.over name) refl over
        where
          own : bytes_eq alias name ≡ true → All (IsSettled (opened ++ name ∷ []) v) those
          own same =
              let same-members : these ≡ those = cc (sym some ∙ sym (ap (members_of groups) (to-same alias name same)) ∙ is) in
              subst (λ (l : Names). All (IsSettled (opened ++ name ∷ []) v) l) same-members s.settled

          go : (b : Bool) → is_among v.over name ≡ b → is_among (if b then v.over else v.over ++ name ∷ []) alias ≡ true → All (IsSettled (opened ++ name ∷ []) v) those
          go true e o = s.walked alias those o is
          go false e o = ⊎_elim (λ old. s.walked alias those old is) own (among-split v.over name alias o)

  settles-met : (depth : ℕ) (through : Names → Names → Walked → Walked) → Walks depth through → (opened : Names) (name : List ℕ) (members : Option Names) (w : Walked)
      → members_of groups name ≡ members → can_open groups opened w < suc depth → AreWalked opened w → Settles opened (name ∷ []) w (met through dropped opened name members w)
  settles-met depth through walks opened name None w is room h = settles-named opened name w is h
  settles-met depth through walks opened name (Some these) w is room h = go (is_among opened name) refl (is_among w.over name) refl
    where
      go : (b : Bool) → is_among opened name ≡ b → (o : Bool) → is_among w.over name ≡ o
          → Settles opened (name ∷ []) w (if b then named dropped opened name w else if o then w else closed name (through (opened ++ name ∷ []) these w))
      go true inside o over = settles-inside opened name these w is inside h
      go false outside true over = settles-over opened name these w is over h
      go false outside false apart =
          let fewer = can-opened groups opened name these w is outside apart in
          settles-through opened name these w (through (opened ++ name ∷ []) these w) is
          (walks (opened ++ name ∷ []) these w (omega arith)
          (λ alias those over some. All-weaker (IsSettled opened w) (IsSettled (opened ++ name ∷ []) w) (settled-inside opened name w) those (h alias those over some)))

  settles-met_all : (depth : ℕ) (through : Names → Names → Walked → Walked) → Walks depth through → (opened names : Names) (w : Walked)
      → can_open groups opened w < suc depth → AreWalked opened w → Settles opened names w (met_all through groups dropped opened names w)
  settles-met_all depth through walks opened [] w room h = record { later = later-same w; walked = h; settled = All-nil (IsSettled opened w) }
  settles-met_all depth through walks opened (name ∷ names) w room h =
      let next : Walked = met through dropped opened name (members_of groups name) w in
      let end : Walked = met_all through groups dropped opened names next in
      let first : Settles opened (name ∷ []) w next = settles-met depth through walks opened name (members_of groups name) w refl room h in
      let fewer : can_open groups opened next ≤ can_open groups opened w = can-later groups opened w next first.later.over in
      let rest : Settles opened names next end = settles-met_all depth through walks opened names next (omega arith) first.walked in
      record {
        later = later-then w next end first.later rest.later;
        walked = rest.walked;
        settled = All-cons (IsSettled opened end) name names (settled-later opened next end rest.later name (All-head (IsSettled opened next) name [] first.settled)) rest.settled;
      }

  settles-walk : (depth : ℕ) → Walks depth (walk depth groups dropped)
  unfolding walk
  settles-walk zero opened names w room h = absurd (omega arith)
  settles-walk (suc depth) opened names w room h = settles-met_all depth (walk depth groups dropped) (settles-walk depth) opened names w room h

  -- where no walk is open each name that is reached is settled
  all-settled : (first : Names) (v : Walked) → AreWalked [] v → All (IsSettled [] v) first → (q : List ℕ) → Reached groups first q → IsSettled [] v q
  all-settled first v walked settled q (given {name} within) = All-contains (IsSettled [] v) first name settled within
  all-settled first v walked settled q (member {alias} {name} {members} r is within) =
      let there = all-settled first v walked settled alias r in
      All-contains (IsSettled [] v) members name (walked alias members (there.alias members is) is) within

no-members : (members : Option Names) → is_some members ≡ false → members ≡ None
no-members None h = refl
no-members (Some these) h = absurd (true≢false h)

pub reached-are-added : ReachedAreAdded
reached-are-added groups own metoo names name reached plain apart =
    let dropped : Names = dropped_names own metoo in
    let end : Walked = walk (suc (length groups)) groups dropped [] names nothing in
    let most = can-all groups in
    let s : Settles groups dropped [] names nothing end = settles-walk groups dropped (suc (length groups)) [] names nothing (omega arith) (λ alias these over is. absurd (true≢false (sym over))) in
    let there : IsSettled groups dropped [] end name = all-settled groups dropped names end s.walked s.settled name reached in
    there.name (no-members (members_of groups name) plain) apart

-- an alias in an alias, one in itself, and a name that is given twice
example : (groups : List Group) (dropped : Names) → groups ≡ ((1 ∷ [], (2 ∷ []) ∷ (3 ∷ []) ∷ []) ∷ (3 ∷ [], (1 ∷ []) ∷ (4 ∷ []) ∷ []) ∷ []) → dropped ≡ []
    → (walk 3 groups dropped [] ((4 ∷ []) ∷ (1 ∷ []) ∷ []) nothing).added ≡ (4 ∷ []) ∷ (2 ∷ []) ∷ (1 ∷ []) ∷ []
unfolding walk
example groups dropped is none =
    ap (λ (g : List Group). (walk 3 g dropped [] ((4 ∷ []) ∷ (1 ∷ []) ∷ []) nothing).added) is
    ∙ ap (λ (d : Names). (walk 3 ((1 ∷ [], (2 ∷ []) ∷ (3 ∷ []) ∷ []) ∷ (3 ∷ [], (1 ∷ []) ∷ (4 ∷ []) ∷ []) ∷ []) d [] ((4 ∷ []) ∷ (1 ∷ []) ∷ []) nothing).added) none
