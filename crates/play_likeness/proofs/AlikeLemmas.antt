-- Plays that are the same but for the inputs that they hold, and their traces.
use Rattle.std.proofs.Common.{◌≡◌, ℕ, true, List, [], ◌∷◌, ◌++◌, refl, sym, ◌∙◌, ap, subst, inl, inr, append_assoc}
use Rattle.std.specs.declared.option.Option.{Option}
use Rattle.std.specs.declared.result.Result.{Result}
use Rattle.std.specs.declared.result.Result.TheVariants.{Ok}
use Rattle.host_port.specs.declared.event.Event.{Event}
use Rattle.host_port.specs.declared.event.Event.TheVariants as event
use Rattle.host_port.specs.Disk.{Disk, disk, after}
use Rattle.host_port.specs.Ran.{Honest}
use Rattle.message_state.specs.RowLaws.{OneRow}
use Rattle.thread_view.specs.ViewLaws.{ViewsAreAlike}
use Rattle.session_play.specs.declared.stop.Stop.{Stop}
use Rattle.session_play.specs.Acts.{AllActs}
use Rattle.session_play.specs.Input.{Input, no_input}
use Rattle.session_play.specs.Play.{Act, Answer, Line, Play, Ret, Ask, Did, Goes, Next, Go, Last, Loop, again, last, cut, bind}
use Rattle.play_likeness.specs.Loads.{LoadsTell}
use Rattle.play_likeness.specs.Outside.{Outside, Gives, said}
use Rattle.play_likeness.specs.Plays.{IsGiven, takes_no_line, AreAlike, PlaysAreAlike}
use Rattle.play_likeness.proofs.LineLemmas.{line_of, line-taken, reads-said, reads-disk}
use Rattle.play_likeness.proofs.ActLemmas.{Level, did-same}

-- Two plays from inputs i and j: the same acts, but that each takes its lines from its own input, and ends that are related.
pub data Alike {R : Type 0} (Ends : R → Input → R → Input → Type 0) : Input → Input → Play R → Play R → Type 0 where
  ret : {i j : Input} {r u : R} → Ends r i u j → Alike Ends i j (Ret r) (Ret u)
  ask : {i j : Input} (act : Act) {go ho : Answer act → Play R} → takes_no_line act ≡ true → ((a : Answer act) → Alike Ends i j (go a) (ho a)) → Alike Ends i j (Ask act go) (Ask act ho)
  line : {i j : Input} {go ho : Option (List ℕ) × Input → Play R} → ((l : Option (List ℕ)) (k m : Input) → Alike Ends k m (go (l, k)) (ho (l, m)))
      → Alike Ends i j (Ask (Line i) go) (Ask (Line j) ho)

-- a play that takes free line is like itself
pub itself : {R : Type 0} (Ends : R → Input → R → Input → Type 0) (i j : Input) (p : Play R) → AllActs takes_no_line p → ((r : R) → Ends r i r j) → Alike Ends i j p p
itself Ends i j (Ret r) all ends = ret (ends r)
itself Ends i j (Ask act go) all ends = ask act all.0 (λ a. itself Ends i j (go a) (all.1 a) ends)

-- a play that takes no line, and then others that are alike
pub then-alike : {A B : Type 0} (Ends : B → Input → B → Input → Type 0) (i j : Input) (p : Play A) (k h : A → Play B) → AllActs takes_no_line p → ((r : A) → Alike Ends i j (k r) (h r))
    → Alike Ends i j (bind p k) (bind p h)
then-alike Ends i j (Ret r) k h all more = more r
then-alike Ends i j (Ask act go) k h all more = ask act all.0 (λ a. then-alike Ends i j (go a) k h (all.1 a) more)

-- ---- traces in two pieces

tell-apart : (es fs : List Event) → LoadsTell (es ++ fs) → LoadsTell es × LoadsTell fs
tell-apart [] fs tell = (tt, tell)
tell-apart (event.Load name s ∷ es) fs tell = let r = tell-apart es fs tell.1 in ((tell.0, r.0), r.1)
tell-apart (e ∷ es) fs tell = tell-apart es fs tell

honest-apart : (d : Disk) (es fs : List Event) → Honest d (es ++ fs) → Honest d es × Honest (disk d es) fs
honest-apart d [] fs h = (tt, h)
honest-apart d (e ∷ es) fs h = let r = honest-apart (after d e) es fs h.1 in ((h.0, r.0), r.1)

gives-apart : (o p : Outside) (es fs : List Event) → Gives o (es ++ fs) p → (m : Outside) × Gives o es m × Gives m fs p
gives-apart o p [] fs g = (o, refl, g)
gives-apart o p (event.In bytes failed ∷ es) fs g = let r = gives-apart (record o { text = g.0 }) p es fs g.3 in (r.0, (g.0, g.1, g.2, r.1), r.2)
gives-apart o p (event.Child program args input answer failed ∷ es) fs g = let r = gives-apart (record o { children = g.0 }) p es fs g.2 in (r.0, (g.0, g.1, r.1), r.2)
gives-apart o p (event.Edit name shell command text answer failed ∷ es) fs g =
    let r = gives-apart (record o { edits = g.1 }) p es fs g.4 in (r.0, (g.0, g.1, g.2, g.3, r.1), r.2)
gives-apart o p (event.Now seconds ∷ es) fs g = let r = gives-apart (record o { times = g.0 }) p es fs g.2 in (r.0, (g.0, g.1, r.1), r.2)
gives-apart o p (e ∷ es) fs g = gives-apart o p es fs g

said-append : (es fs : List Event) → said (es ++ fs) ≡ said es ++ said fs
said-append [] fs = refl
said-append (event.Out bytes failed ∷ es) fs = ap (λ (r : List ℕ). bytes ++ r) (said-append es fs) ∙ sym (append_assoc bytes (said es) (said fs))
said-append (e ∷ es) fs = said-append es fs

disk-append : (d : Disk) (es fs : List Event) → disk d (es ++ fs) ≡ disk (disk d es) fs
disk-append d [] fs = refl
disk-append d (e ∷ es) fs = disk-append (after d e) es fs

-- a front that is given, and what follows it
pub record GivenApart (d : Disk) (o p : Outside) (front rest : List Event) : Type 0 where
  pub between : Outside
  pub first : IsGiven d o between front
  pub then : IsGiven (disk d front) between p rest

pub given-apart : (d : Disk) (o p : Outside) (es front rest : List Event) → es ≡ front ++ rest → IsGiven d o p es → GivenApart d o p front rest
given-apart d o p es front rest is given =
    let g = subst (IsGiven d o p) is given in
    let h = honest-apart d front rest g.honest in
    let t = tell-apart front rest g.tell in
    let s = gives-apart o p front rest g.gives in
    record {
      between = s.0;
      first = record { honest = h.0; tell = t.0; gives = s.1 };
      then = record { honest = h.1; tell = t.1; gives = s.2 };
    }

pub alike-then : (d : Disk) (es front rest fs front' rest' : List Event) → es ≡ front ++ rest → fs ≡ front' ++ rest' → said front ≡ said front' → disk d front ≡ disk d front'
    → AreAlike (disk d front) rest rest' → AreAlike d es fs
alike-then d es front rest fs front' rest' is was says leaves more = record {
  says = ap said is ∙ said-append front rest ∙ (λ i. says i ++ more.says i) ∙ sym (said-append front' rest') ∙ ap said (sym was);
  leaves = ap (disk d) is ∙ disk-append d front rest ∙ more.leaves ∙ ap (λ (e : Disk). disk e rest') leaves ∙ sym (disk-append d front' rest') ∙ ap (disk d) (sym was);
}

abbrev came : {R : Type 0} → R → Result R Stop
came r = Ok r

came-same : {R : Type 0} (r q : R) → came r ≡ came q → r ≡ q
came-same r q e = cc

-- ---- the traces of plays that are alike

record Gone {R : Type 0} (Ends : R → Input → R → Input → Type 0) (r u : R) (d : Disk) (es fs : List Event) (o p : Outside) : Type 0 where
  left : Input
  other_left : Input
  ends : Ends r left u other_left
  alike : AreAlike d es fs
  level : Level left o other_left p

none-given : (d : Disk) (o p : Outside) (es : List Event) → es ≡ [] → IsGiven d o p es → o ≡ p
none-given d o p es is given = (subst (IsGiven d o p) is given).gives

-- a line on both sides
record LineSame (a b : Option (List ℕ) × Input) (d : Disk) (es fs : List Event) (o p : Outside) : Type 0 where
  line_is : a.0 ≡ b.0
  says : said es ≡ said fs
  leaves : disk d es ≡ disk d fs
  level : Level a.1 o b.1 p

line-same : (d : Disk) (es fs : List Event) (i j : Input) (o m p n : Outside) (a b : Option (List ℕ) × Input) → IsGiven d o m es → IsGiven d p n fs
    → Level i o j p → Did (Line i) a es → Did (Line j) b fs
    → LineSame a b d es fs m n
line-same d es fs i j o m p n a b given also level (k, reads, next) (l, takes, hands) =
    let one = line-taken es i k o m a reads next given.gives level.end in
    let two = line-taken fs j l p n b takes hands also.gives level.other_end in
    let same : (a.0, a.1.rest ++ m.text) ≡ (b.0, b.1.rest ++ n.text) = sym one.line ∙ ap line_of level.text ∙ two.line in
    record {
      line_is = ap (λ (x : Option (List ℕ) × List ℕ). x.0) same;
      says = reads-said es i k reads ∙ sym (reads-said fs j l takes);
      leaves = reads-disk es i k d reads ∙ sym (reads-disk fs j l d takes);
      level = record {
        text = ap (λ (x : Option (List ℕ) × List ℕ). x.1) same;
        children = sym one.children ∙ level.children ∙ two.children;
        edits = sym one.edits ∙ level.edits ∙ two.edits;
        times = sym one.times ∙ level.times ∙ two.times;
        end = one.end;
        other_end = two.end;
      };
    }

-- rounds lead to states that are alike, or to the same end
abbrev pub NextAlike : {X R : Type 0} → (X → Input → X → Input → Type 0) → Next X R → Input → Next X R → Input → Type 0
NextAlike States (Go x) i (Go y) j = States x i y j
NextAlike States (Last r) i (Last u) j = r ≡ u
NextAlike States a i b j = ⊥

-- two loops end the same
pub record LoopsGone {R : Type 0} (r u : R) (d : Disk) (es fs : List Event) : Type 0 where
  pub end : r ≡ u
  pub alike : AreAlike d es fs

module _ (one_row : OneRow) (one_view : ViewsAreAlike) where
  goes-alike : {R : Type 0} (Ends : R → Input → R → Input → Type 0) {i j : Input} {x y : Play R} → Alike Ends i j x y → (d : Disk) (o m p n : Outside) (es fs : List Event) (r u : R) → Level i o j p
      → Goes x es (Ok r) → Goes y fs (Ok u) → IsGiven d o m es → IsGiven d p n fs → Gone Ends r u d es fs m n
  goes-alike {R} Ends (ret {i = i} {j = j} {r = v} {u = w} e) d o m p n es fs r u level (none, inl is) (also_none, inl was) given also = record {
    left = i;
    other_left = j;
    ends = subst (λ (r : R). Ends r i u j) (sym (came-same r v is)) (subst (λ (u : R). Ends v i u j) (sym (came-same u w was)) e);
    alike = record { says = ap said (none ∙ sym also_none); leaves = ap (disk d) (none ∙ sym also_none) };
    level = subst (λ (m : Outside). Level i m j n) (none-given d o m es none given) (subst (λ (n : Outside). Level i o j n) (none-given d p n fs also_none also) level);
  }
  goes-alike Ends (ret e) d o m p n es fs r u level (none, inr other) h given also = absurd (cc other)
  goes-alike Ends (ret e) d o m p n es fs r u level (none, inl is) (also_none, inr other) given also = absurd (cc other)
  goes-alike {R} Ends (ask {i = i} {j = j} act {go = go} {ho = ho} free each) d o m p n es fs r u level (inl (a, front, rest, is, did, more)) (inl (b, front', rest', was, did', more')) given also =
      let g = given-apart d o m es front rest is given in
      let h = given-apart d p n fs front' rest' was also in
      let same = did-same one_row one_view d front front' i j o g.between p h.between g.first h.first level act free a b did did' in
      let next = goes-alike Ends (each a) (disk d front) g.between m h.between n rest rest' r u same.level more
      (subst (λ (c : Answer act). Goes (ho c) rest' (Ok u)) (sym same.answer) more') g.then (subst (λ (e : Disk). IsGiven e h.between n rest') (sym same.leaves) h.then) in
      record {
        left = next.left;
        other_left = next.other_left;
        ends = next.ends;
        alike = alike-then d es front rest fs front' rest' is was same.says same.leaves next.alike;
        level = next.level;
      }
  goes-alike Ends (ask act free each) d o m p n es fs r u level (inr (cause, other, part)) h given also = absurd (cc other)
  goes-alike Ends (ask act free each) d o m p n es fs r u level (inl g) (inr (cause, other, part)) given also = absurd (cc other)
  goes-alike {R} Ends (line {i = i} {j = j} {go = go} {ho = ho} each) d o m p n es fs r u level (inl (a, front, rest, is, did, more)) (inl (b, front', rest', was, did', more')) given also =
      let g = given-apart d o m es front rest is given in
      let h = given-apart d p n fs front' rest' was also in
      let same = line-same d front front' i j o g.between p h.between a b g.first h.first level did did' in
      let next = goes-alike Ends (each a.0 a.1 b.1) (disk d front) g.between m h.between n rest rest' r u same.level more
      (subst (λ (l : Option (List ℕ)). Goes (ho (l, b.1)) rest' (Ok u)) (sym same.line_is) more') g.then (subst (λ (e : Disk). IsGiven e h.between n rest') (sym same.leaves) h.then) in
      record {
        left = next.left;
        other_left = next.other_left;
        ends = next.ends;
        alike = alike-then d es front rest fs front' rest' is was same.says same.leaves next.alike;
        level = next.level;
      }
  goes-alike Ends (line each) d o m p n es fs r u level (inr (cause, other, part)) h given also = absurd (cc other)
  goes-alike Ends (line each) d o m p n es fs r u level (inl g) (inr (cause, other, part)) given also = absurd (cc other)

  -- ---- rounds

  pub loop-alike : {X R : Type 0} (round : X → Play (Next X R)) (States : X → Input → X → Input → Type 0)
      → ((x y : X) (i j : Input) → States x i y j → Alike (NextAlike States) i j (round x) (round y))
      → {x y : X} {es fs : List Event} {out other : Result R Stop} → Loop round x es out → Loop round y fs other → (r u : R) → out ≡ Ok r → other ≡ Ok u
      → (i j : Input) → States x i y j → (d : Disk) (o m p n : Outside) → Level i o j p → IsGiven d o m es → IsGiven d p n fs → LoopsGone r u d es fs
  loop-alike round States each {es = es} {fs = fs} (again {x = x} {y = y} front rest is goes more)
      (again {x = x'} {y = y'} front' rest' was goes' more') r u done done' i j states d o m p n level given also =
      let g = given-apart d o m es front rest is given in
      let h = given-apart d p n fs front' rest' was also in
      let first = goes-alike (NextAlike States) (each x x' i j states) d o g.between p h.between front front' (Go y) (Go y') level goes goes' g.first h.first in
      let next = loop-alike round States each more more' r u done done' first.left first.other_left first.ends (disk d front) g.between m h.between n first.level g.then
      (subst (λ (e : Disk). IsGiven e h.between n rest') (sym first.alike.leaves) h.then) in
      record { end = next.end; alike = alike-then d es front rest fs front' rest' is was first.alike.says first.alike.leaves next.alike }
  loop-alike round States each {es = es} {fs = fs} (again {x = x} {y = y} front rest is goes more) (last {x = x'} {r = v} goes') r u done done' i j states d o m p n level given also =
      let g = given-apart d o m es front rest is given in
      absurd (goes-alike (NextAlike States) (each x x' i j states) d o g.between p n front fs (Go y) (Last v) level goes goes' g.first also).ends
  loop-alike round States each {es = es} {fs = fs} (last {x = x} {r = v} goes) (again {x = x'} {y = y'} front' rest' was goes' more') r u done done' i j states d o m p n level given also =
      let h = given-apart d p n fs front' rest' was also in
      absurd (goes-alike (NextAlike States) (each x x' i j states) d o m p h.between es front' (Last v) (Go y') level goes goes' given h.first).ends
  loop-alike round States each {es = es} {fs = fs} (last {x = x} {r = v} goes) (last {x = x'} {r = w} goes') r u done done' i j states d o m p n level given also =
      let first = goes-alike (NextAlike States) (each x x' i j states) d o m p n es fs (Last v) (Last w) level goes goes' given also in
      record { end = sym (came-same v r done) ∙ first.ends ∙ came-same w u done'; alike = first.alike }
  loop-alike round States each (cut goes) l r u done done' i j states d o m p n level given also = absurd (cc done)
  loop-alike round States each (again front rest is goes more) (cut goes') r u done done' i j states d o m p n level given also = absurd (cc done')
  loop-alike round States each (last goes) (cut goes') r u done done' i j states d o m p n level given also = absurd (cc done')

-- the same is to come at the start
pub level-first : (o : Outside) → Level no_input o no_input o
level-first o = record { text = refl; children = refl; edits = refl; times = refl; end = λ e. absurd (cc e); other_end = λ e. absurd (cc e) }

pub plays_are_alike : OneRow → ViewsAreAlike → PlaysAreAlike
plays_are_alike one_row one_view p d o a b es fs all given also goes went =
    (goes-alike one_row one_view (λ r i u j. Unit {0}) (itself (λ r i u j. Unit {0}) no_input no_input p all (λ r. tt)) d o a o b es fs tt tt (level-first o) goes went given also).alike
