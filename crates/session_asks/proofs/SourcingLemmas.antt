-- Lines that a command brings.
use Rattle.std.proofs.Common.{◌≡◌, ◌+◌, ◌-◌, ◌*◌, ◌^◌, ◌<◌, ◌≤◌, ℕ, Bool, true, false, cond, List, [], ◌∷◌, ◌++◌, length, take, refl, sym, ◌∙◌, ap, subst, inl, arith, append_assoc}
use Rattle.std.specs.Prelude.{◌||◌, ◌&&◌, nat_lt, codes, IfOk, IfErr, if◌then◌else◌}
use Rattle.std.specs.Str.{bytes_eq}
use Rattle.std.specs.List.{list_all, list_any}
use Rattle.std.proofs.lemmas.Bool.{cond-true, ltb-true}
use Rattle.std.proofs.lemmas.List.{append-nil, take_at}
use Rattle.std.proofs.lemmas.List.Sums.{sum_by-append}
use Rattle.std.specs.declared.option.Option.{Option}
use Rattle.std.specs.declared.option.Option.TheVariants.{Some, None}
use Rattle.std.specs.declared.result.Result.{Result}
use Rattle.std.specs.declared.result.Result.TheVariants.{Ok, Err}
use Rattle.mail_text.specs.Lines.{lines_of}
use Rattle.mailx_vars.specs.Names.{is_short_name}
use Rattle.command_desk.specs.Desks.{IsDesk}
use Rattle.command_desk.specs.Faults.{bad_name, sources_too_deep}
use Rattle.mail_text.proofs.LineLemmas.{length-lines_of}
use Rattle.host_port.specs.Calls.{Counts}
use Rattle.session_play.specs.Play.{Play, Ret, Goes}
use Rattle.session_play.specs.Steps.{After}
use Rattle.session_play.proofs.PlayLemmas.{at-memory}
use Rattle.mailx_macros.specs.Macros.{line_refusal}
use Rattle.mailx_macros.specs.declared.error.MacroError.{MacroError}
use Rattle.command_desk.specs.declared.naming.Naming.TheVariants as naming
use Rattle.command_desk.specs.declared.steps.Ask as asked_of
use Rattle.command_desk.specs.Answers.{effects_alone}
use Rattle.command_desk.specs.Effects.{renames}
use Rattle.desk_commands.specs.Defining.{or_macro_fault}
use Rattle.read_commands.specs.Origins.{commanded, is_defining, is_startup_ask}
use Rattle.read_commands.specs.declared.origin.Origin.{Origin}
use Rattle.session_state.specs.declared.answers.AskResult.{AskResult}
use Rattle.session_state.specs.declared.answers.AskResult.TheVariants as answered
use Rattle.session_state.specs.declared.error.RunError.{RunError}
use Rattle.session_state.specs.declared.error.RunError.TheVariants as error
use Rattle.session_state.specs.declared.kinds.FrameKind.{FrameKind}
use Rattle.session_state.specs.declared.kinds.FrameKind.TheVariants as kinds
use Rattle.session_state.specs.declared.status.Status.{Status}
use Rattle.session_state.specs.declared.state.SessionState.{SessionState}
use Rattle.session_state.specs.Waits.{Pending}
use Rattle.session_state.specs.Pending.{frame_of, lines_left}
use Rattle.session_state.specs.Placing.{placed}
use Rattle.session_state.specs.States.{IsState, with_desk, with_draft, with_file, with_frames, resumed, OnlyFrames, KeepsOthers}
use Rattle.session_state.specs.Bringing.{is_source, is_call, sources, calls, source_limit, origin_at, with_lines, room, weight, AllFrom, HasPlace, OnlyBrings}
use Rattle.session_state.proofs.OriginLemmas.{origin-added, all-added}
use Rattle.session_asks.specs.Sourcing.{source_fault}
use Rattle.session_state.specs.Answers.{after_asks, in_play, stop_of, LineCaused, EndsByAsk, EndsNoRun, IsNoDiskFault, AsksGoOn}
use Rattle.session_asks.specs.Asks.{brings, brings_lines, is_on, StaysUnlessOn, KeepsDesk}
use Rattle.command_desk.specs.declared.desk.Desk.{Desk}

pub le-refl : (n : ℕ) → n ≤ n
le-refl n = omega arith

le-then : (a b c : ℕ) → a ≤ b → b ≤ c → a ≤ c
le-then a b c x y = omega arith

-- nothing is brought
pub brings_none : (s t : SessionState) → t ≡ s → OnlyBrings s t
brings_none s t same = subst (λ (u : SessionState). OnlyBrings s u) (sym same) (record { rest = refl; inside = ([], tt, sym (append-nil s.frames)); room = le-refl (room s.frames) })

-- what is brought after other lines
pub brings-then : (a b c : SessionState) → OnlyBrings a b → OnlyBrings b c → OnlyBrings a c
brings-then a b c x y = record {
  rest = y.rest ∙ ap (λ (s : SessionState). with_file (with_draft (with_frames (with_desk s c.desk) c.frames) c.draft) c.file) x.rest;
  inside = (
    x.inside.0 ++ y.inside.0,
    all-added (origin_at a.frames) x.inside.0 y.inside.0 x.inside.1 (subst (λ (o : Origin). AllFrom o y.inside.0) (ap origin_at x.inside.2 ∙ origin-added a.frames x.inside.0 x.inside.1) y.inside.1),
    y.inside.2 ∙ (ap (λ (fs : List Pending). fs ++ y.inside.0) x.inside.2 ∙ append_assoc a.frames x.inside.0 y.inside.0),
  );
  room = le-then (room c.frames) (room b.frames) (room a.frames) y.room x.room;
}

-- without what was brought the state is as before, where the desk is
pub cut-back : (s t : SessionState) (depth : ℕ) → OnlyBrings s t → OnlyFrames s t → depth ≡ length s.frames → with_frames t (take depth t.frames) ≡ s
cut-back s t depth b same is =
    let front : take depth t.frames ≡ s.frames = ap (take depth) b.inside.2 ∙ take_at s.frames b.inside.0 depth (sym is) in
    ap (with_frames t) front ∙ ap (λ (u : SessionState). with_frames u s.frames) same

-- another desk is put
pub brings-desk : (s : SessionState) (desk : Desk) → OnlyBrings s (with_desk s desk)
brings-desk s desk = record { rest = refl; inside = ([], tt, sym (append-nil s.frames)); room = le-refl (room s.frames) }

-- the state stays valid where its desk is
pub valid-desk : (s : SessionState) (desk : Desk) → IsState s → IsDesk desk → IsState (with_desk s desk)
valid-desk s desk is valid = record { desk = valid; actor = is.actor }

-- only lines are brought where the state stays
only-same : (s t : SessionState) → t ≡ s → OnlyFrames s t
only-same s t same = subst (λ (u : SessionState). OnlyFrames s u) (sym same) refl

-- and by one ask after another
pub only-then : (a b c : SessionState) → OnlyFrames a b → OnlyFrames b c → OnlyFrames a c
only-then a b c x y = y ∙ ap (λ (s : SessionState). with_frames s c.frames) x

-- then the desk stays
pub only-desk : (s t : SessionState) → OnlyFrames s t → t.desk ≡ s.desk
only-desk s t only = ap (λ (u : SessionState). u.desk) only

-- the desk stays where the state does
pub same-desk : (s t : SessionState) (r : Result AskResult RunError) → t ≡ s → KeepsDesk s t r
same-desk s t (Ok answered.On) same = only-same s t same
same-desk s t (Ok answered.Over) same = tt
same-desk s t (Ok (answered.Refused line)) same = only-same s t same
same-desk s t (Ok (answered.Ended e)) same = only-same s t same
same-desk s t (Err e) same = tt

-- or its own desk
pub keeps-desk : (s t : SessionState) (r : Result AskResult RunError) → OnlyFrames s t → KeepsDesk s t r
keeps-desk s t (Ok answered.On) same = same
keeps-desk s t (Ok answered.Over) same = tt
keeps-desk s t (Ok (answered.Refused line)) same = same
keeps-desk s t (Ok (answered.Ended e)) same = same
keeps-desk s t (Err e) same = tt

-- what a later ask keeps is kept in the whole stretch
pub keeps-then : (a b c : SessionState) (r : Result AskResult RunError) → OnlyFrames a b → KeepsDesk b c r → KeepsDesk a c r
keeps-then a b c (Ok answered.On) x y = only-then a b c x y
keeps-then a b c (Ok answered.Over) x y = tt
keeps-then a b c (Ok (answered.Refused line)) x y = only-then a b c x y
keeps-then a b c (Ok (answered.Ended e)) x y = only-then a b c x y
keeps-then a b c (Err e) x y = tt

-- where the desk stays the state stays valid
pub kept-valid : (s t : SessionState) → IsState s → OnlyBrings s t → OnlyFrames s t → IsState t
kept-valid s t is b same = subst IsState (sym same) (record { desk = is.desk; actor = is.actor })

-- the desk stays in one ask after another, the first of which left it
pub desk-then : (s t u : SessionState) (r : Result AskResult RunError) → OnlyFrames s t → KeepsDesk t u r → KeepsDesk s u r
desk-then s t u (Ok answered.On) same keeps = only-then s t u same keeps
desk-then s t u (Ok answered.Over) same keeps = tt
desk-then s t u (Ok (answered.Refused line)) same keeps = only-then s t u same keeps
desk-then s t u (Ok (answered.Ended e)) same keeps = only-then s t u same keeps
desk-then s t u (Err e) same keeps = tt

-- one frame more
left-more : (fs : List Pending) (f : Pending) → lines_left (fs ++ f ∷ []) ≡ lines_left fs + length f.lines
left-more [] f = omega arith
left-more (g ∷ fs) f = let rest = left-more fs f in omega arith

sources-more : (fs : List Pending) (f : Pending) → sources (fs ++ f ∷ []) ≡ sources fs + sources (f ∷ [])
sources-more fs f = sum_by-append (λ (g : Pending). cond (is_source g.kind) 1 0) fs (f ∷ [])

calls-more : (fs : List Pending) (f : Pending) → calls (fs ++ f ∷ []) ≡ calls fs + calls (f ∷ [])
calls-more fs f = sum_by-append (λ (g : Pending). cond (is_call g.kind) 1 0) fs (f ∷ [])

room-falls : (a b k n m p q : ℕ) → b ≡ a + k → k < 2 ^ 64 → m ≡ n + 1 → n < 16 → p ≡ q → b + ((16 - m) + (32 - p)) * 2 ^ 64 ≤ a + ((16 - n) + (32 - q)) * 2 ^ 64
room-falls a b k n m p q more small one few same = omega arith

room-called : (a b k n m p q : ℕ) → b ≡ a + k → k < 2 ^ 64 → m ≡ n → p ≡ q + 1 → q < 32 → b + ((16 - m) + (32 - p)) * 2 ^ 64 ≤ a + ((16 - n) + (32 - q)) * 2 ^ 64
room-called a b k n m p q more small same one few = omega arith

below : (a b c : ℕ) → a ≤ b → b < c → a < c
below a b c x y = omega arith

none-more : (n : ℕ) → n + 0 ≡ n
none-more n = omega arith

-- lines that are brought take from the room what they may
room-lines : (by : FrameKind) (fs : List Pending) (origin : Origin) (nested : ℕ) (text : List ℕ) → HasPlace by fs → length text < 2 ^ 64
    → room (fs ++ frame_of origin by nested text ∷ []) ≤ room fs
room-lines kinds.Source fs origin nested text few small =
    let f = frame_of origin kinds.Source nested text in
    room-falls (lines_left fs) (lines_left (fs ++ f ∷ [])) (length (lines_of text)) (sources fs) (sources (fs ++ f ∷ [])) (calls (fs ++ f ∷ [])) (calls fs) (left-more fs f)
    (below (length (lines_of text)) (length text) (2 ^ 64) (length-lines_of text) small) (sources-more fs f) few (calls-more fs f ∙ none-more (calls fs))
room-lines kinds.Call fs origin nested text few small =
    let f = frame_of origin kinds.Call nested text in
    room-called (lines_left fs) (lines_left (fs ++ f ∷ [])) (length (lines_of text)) (sources fs) (sources (fs ++ f ∷ [])) (calls (fs ++ f ∷ [])) (calls fs) (left-more fs f)
    (below (length (lines_of text)) (length text) (2 ^ 64) (length-lines_of text) small) (sources-more fs f ∙ none-more (sources fs)) (calls-more fs f) few
room-lines kinds.Startup fs origin nested text few small = absurd few

-- the lines of a file or a macro are brought
pub brings-lines : (by : FrameKind) (s : SessionState) (text : List ℕ) → HasPlace by s.frames → length text < 2 ^ 64 → OnlyBrings s (with_lines by s text)
brings-lines by s text few small = record {
  rest = refl;
  inside = (frame_of (origin_at s.frames) by (length s.desk.conditions) text ∷ [], (refl, tt), refl);
  room = room-lines by s.frames (origin_at s.frames) (length s.desk.conditions) text few small;
}

-- the first of some asks that bring nothing brings nothing, and neither do those after it
pub quiet-parts : (a : asked_of.Ask) (asks : List asked_of.Ask) → list_any brings (a ∷ asks) ≡ false → (brings a ≡ false) × (list_any brings asks ≡ false)
quiet-parts a asks none = go (brings a) none
  where
    go : (b : Bool) → (b || list_any brings asks) ≡ false → (b ≡ false) × (list_any brings asks ≡ false)
    go true h = absurd (cc h)
    go false h = (refl, h)

-- the first of some asks that a start-up file may have, and those after it
pub startup-parts : (a : asked_of.Ask) (asks : List asked_of.Ask) → list_all is_startup_ask (a ∷ asks) ≡ true → (is_startup_ask a ≡ true) × (list_all is_startup_ask asks ≡ true)
startup-parts a asks all = go (is_startup_ask a) all
  where
    go : (b : Bool) → (b && list_all is_startup_ask asks) ≡ true → (b ≡ true) × (list_all is_startup_ask asks ≡ true)
    go true h = (refl, h)
    go false h = absurd (cc h)

-- what answers leave where not all was done
pub after-same : (s t : SessionState) (r : Result AskResult RunError) → is_on r ≡ false → in_play (after_asks s) r ≡ in_play (after_asks t) r
after-same s t (Ok answered.On) off = absurd (cc off)
after-same s t (Ok answered.Over) off = absurd (cc off)
after-same s t (Ok (answered.Refused line)) off = refl
after-same s t (Ok (answered.Ended e)) off = refl
after-same s t (Err e) off = refl

pub stays-same : (s t : SessionState) (r : Result AskResult RunError) → t ≡ s → StaysUnlessOn s t r
stays-same s t (Ok answered.On) same = tt
stays-same s t (Ok answered.Over) same = tt
stays-same s t (Ok (answered.Refused line)) same = same
stays-same s t (Ok (answered.Ended e)) same = same
stays-same s t (Err e) same = tt

pub stays-on : (s t : SessionState) (r : Result AskResult RunError) → is_on r ≡ true → StaysUnlessOn s t r
stays-on s t (Ok answered.On) on = tt
stays-on s t (Ok answered.Over) on = tt
stays-on s t (Ok (answered.Refused line)) on = absurd (cc on)
stays-on s t (Ok (answered.Ended e)) on = absurd (cc on)
stays-on s t (Err e) on = tt

weight-falls : (c d l m x y z w : ℕ) → c < 100000 → d ≡ c + 1 → m + ((16 - y) + (32 - w)) * 2 ^ 64 ≤ l + ((16 - x) + (32 - z)) * 2 ^ 64 → (100000 - d) * 2 ^ 70 + m ≤ (100000 - c) * 2 ^ 70 + l
weight-falls c d l m x y z w within more room = omega arith

-- one command more outweighs the lines that it brings
pub weight-counted : (s t : SessionState) → s.count < 100000 → t.count ≡ s.count + 1 → room t.frames ≤ room s.frames → weight t ≤ weight s
weight-counted s t within more fits = weight-falls s.count t.count (lines_left s.frames) (lines_left t.frames) (sources s.frames) (sources t.frames) (calls s.frames) (calls t.frames) within more fits

-- and so does a line that is taken
pub weight-taken : (s : SessionState) (fs : List Pending) → lines_left fs < lines_left s.frames → weight (with_frames s fs) < weight s
weight-taken s fs fewer = omega arith

pub weight-fewer : (s : SessionState) (fs : List Pending) → lines_left fs ≤ lines_left s.frames → weight (with_frames s fs) ≤ weight s
weight-fewer s fs fewer = omega arith

pub weight_dropped : (s t : SessionState) → t ≡ resumed s [] → weight t ≤ weight s
weight_dropped s t is = subst (λ (u : SessionState). weight u ≤ weight s) (sym is) (weight-fewer s [] (omega arith))

-- a file that may be loaded has a file's name
pub source-name : (s : SessionState) (name : List ℕ) → source_fault s name ≡ None → is_short_name (placed s.here name) ≡ true
source-name s name plain = go (is_short_name (placed s.here name)) (nat_lt (sources s.frames) source_limit) plain
  where
    go : (short few : Bool) → (if short then (if few then None else Some sources_too_deep) else Some (bad_name name)) ≡ None → short ≡ true
    go true few h = refl
    go false few h = absurd (cc h)

-- and one more may be open
pub source-few : (s : SessionState) (name : List ℕ) → source_fault s name ≡ None → sources s.frames < source_limit
source-few s name plain = ltb-true (sources s.frames) source_limit (go (is_short_name (placed s.here name)) (nat_lt (sources s.frames) source_limit) plain)
  where
    go : (short few : Bool) → (if short then (if few then None else Some sources_too_deep) else Some (bad_name name)) ≡ None → few ≡ true
    go true true h = refl
    go true false h = absurd (cc h)
    go false few h = absurd (cc h)

-- and so do no lines, with the count as it was
pub weight_kept : (s t : SessionState) → KeepsOthers s t → t.frames ≡ s.frames → weight t ≤ weight s
weight_kept s t others same = subst (λ (u : SessionState). weight u ≤ weight s)
    (sym (others ∙ ap (λ (fs : List Pending). with_file (with_draft (with_frames (with_desk s t.desk) fs) t.draft) t.file) same)) (le-refl (weight s))

-- a line of a definition brings nothing
definition-brings : (b : Bool) (o : Option MacroError) (line : List ℕ)
    → brings_lines (if b then effects_alone (renames naming.End) else or_macro_fault [] o (effects_alone (renames (naming.Line line)))) ≡ false
definition-brings true o line = refl
definition-brings false None line = refl
definition-brings false (Some e) line = refl

pub defining_brings_none : (origin : Origin) (desk : Desk) (line : List ℕ) → is_defining desk ≡ true → brings_lines (commanded origin desk line) ≡ false
defining_brings_none origin desk line defining =
    ap brings_lines (cond-true _ _ _ defining) ∙ definition-brings (bytes_eq line (codes "}")) (line_refusal desk.macros line) line

-- where what an ask leaves is known without an event
pub left-goes : (t : SessionState) (left : After SessionState Status) (r : Result AskResult RunError) → IfOk r (λ asked. after_asks t asked ≡ left) → IfErr r (λ e. e ≡ error.Memory)
    → Goes (Ret left) [] (in_play (after_asks t) r)
left-goes t left (Ok asked) means memory = (refl, inl (ap (λ (a : After SessionState Status). Ok a) means))
left-goes t left (Err e) means memory = at-memory-as (Ret left) e memory
  where
    at-memory-as : (p : Play (After SessionState Status)) (e : RunError) → e ≡ error.Memory → Goes p [] (Err (stop_of e))
    at-memory-as p e same = subst (λ (x : RunError). Goes p [] (Err (stop_of x))) (sym same) (at-memory p)

pub called-caused : (a b : Counts) (r : Result AskResult RunError) → IfErr r (λ e. e ≡ error.Memory) → LineCaused a b r
called-caused a b (Ok asked) memory = tt
called-caused a b (Err error.Memory) memory = tt
called-caused a b (Err error.Output) memory = absurd (cc memory)
called-caused a b (Err error.Disk) memory = absurd (cc memory)

-- an ask that doesn't end the run ends it as a line may
pub ends-by-ask : (r : Result AskResult RunError) → IfOk r EndsNoRun → IfOk r EndsByAsk
ends-by-ask (Ok answered.On) h = tt
ends-by-ask (Ok answered.Over) h = tt
ends-by-ask (Ok (answered.Refused line)) h = tt
ends-by-ask (Ok (answered.Ended e)) h = absurd h
ends-by-ask (Err e) h = tt

-- and where memory alone cuts it off no fault of the disk does
pub asks-go-on : (r : Result AskResult RunError) → IfOk r EndsNoRun → IfErr r (λ e. e ≡ error.Memory) → AsksGoOn r
asks-go-on (Ok a) h memory = h
asks-go-on (Err e) h memory = subst IsNoDiskFault (sym memory) tt
