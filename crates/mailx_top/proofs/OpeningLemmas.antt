-- Why a run opened no folder, and why it was refused.
use Rattle.std.proofs.lemmas.List.{append-nil}
use Rattle.std.proofs.Common.{◌≡◌, ◌⊎◌, ◌||◌, ℕ, Bool, true, false, List, [], ◌∷◌, ◌++◌, refl, sym, ◌∙◌, ap, subst, inl, inr}
use Rattle.std.specs.Prelude.{if◌then◌else◌, ◌&&◌, not, codes}
use Rattle.std.specs.declared.option.Option.{Option}
use Rattle.std.specs.declared.option.Option.TheVariants.{Some, None}
use Rattle.std.specs.declared.result.Result.{Result}
use Rattle.std.specs.declared.result.Result.TheVariants.{Ok, Err}
use Rattle.host_port.specs.declared.event.Event.{Event}
use Rattle.host_port.specs.declared.event.Event.TheVariants as event
use Rattle.host_port.specs.declared.event.Seen.{Seen}
use Rattle.host_port.specs.declared.event.Seen.TheVariants as seen
use Rattle.session_play.specs.declared.act.Found.{Found}
use Rattle.session_play.specs.declared.act.Found.TheVariants as found
use Rattle.session_play.specs.declared.stop.Stop.{Stop}
use Rattle.session_play.specs.Input.{no_input}
use Rattle.session_play.specs.Play.{Read, Play, Ask, seen_of, Goes, Next, Go, Last, Loop, again, last, cut}
use Rattle.mail_text.specs.Lines.{with_feed}
use Rattle.mailx_vars.specs.Names.{is_short_name}
use Rattle.command_desk.specs.Answers.{OrFault}
use Rattle.session_state.specs.Placing.{placed}
use Rattle.session_state.specs.declared.state.SessionState.{SessionState}
use Rattle.session_state.specs.declared.status.Status.{Status}
use Rattle.session_state.specs.declared.status.Status.TheVariants as status
use Rattle.mailx_top.specs.declared.environment.Environment.{Environment}
use Rattle.mailx_top.specs.Words as words
use Rattle.mailx_top.specs.Words.{Start, options_of}
use Rattle.mailx_top.specs.Meaning.{RunState, Recovering, Opening, Reading, Finishing, Leaving, round, opening, starting, folder_name, with_name_or_fault, loaded, is_no_mail, heard, ends_with, says_and_ends, is_opening, usage, Preparing}
use Rattle.session_play.specs.Acts.{AllActs, AllEnds, loads_nothing}
use Rattle.session_play.specs.Causes.{some_load_saw, counted, events_at}
use Rattle.session_play.proofs.SawLemmas.{Unseen, goes-unseen}
use Rattle.session_play.proofs.ShapeLemmas.{came-same, goes-ends}
use Rattle.session_state.specs.declared.outcome.SendOutcome.{SendOutcome}
use Rattle.mailx_top.specs.Leavings.{first_answer, is_quit_refused, is_refused_before, is_refused_at, refused_at_end}
use Rattle.mailx_session.proofs.ObeyLemmas.{obeys-acts, obeys-ends, nothing_met}
use Rattle.mailx_top.proofs.LeavingLemmas.{EndsBy, end_at, opened_end, quit-end, last-ends}
use Rattle.command_words.specs.declared.options.Options.{Options}
use Rattle.mailx_top.proofs.RoundLemmas.{IsBefore, IsReadingState, Standing, after_act, May, OpenEnds, Opens, end_by, end_of, loaded-obeys, sent, asks_in, begun_in, sent-obeys, goes-on, goes-over}
use Rattle.mailx_top.specs.Openings.{IsNoName, OpensBadly, OpenedBadly, saw_held, is_no_folder, is_named, saw_no_mail, saw_no_folder, OpensNoMail, OpensNone, IsOpeningExplained}

line-end : (o : SendOutcome) (e : Status) → EndsBy o e → opened_end e ≡ end_at (is_refused_before o e)
line-end o e by_line = quit-end o false e by_line

-- another end is itself
other-end : (r e : Status) → opened_end r ≡ e → (e ≡ status.Done → ⊥) → r ≡ e
other-end status.BadRecord e is other = absurd (other (sym is))
other-end (status.NotSent n) e is other = absurd (other (sym is))
other-end status.Done e is other = is
other-end status.NoMail e is other = is
other-end status.Usage e is other = is
other-end status.InputFault e is other = is
other-end status.OutputFault e is other = is
other-end status.DiskFault e is other = is
other-end status.Refused e is other = is
other-end status.Memory e is other = is
other-end status.InputLimit e is other = is
other-end status.NoFolder e is other = is

abbrev EndsLike : Status → Result Status Stop → Type 0
EndsLike e (Ok r) = opened_end r ≡ e
EndsLike e (Err cause) = Unit {0}

-- a round is followed by none that opens a folder
pub next-round : (env : Environment) (x y : RunState) (es : List Event) → IsReadingState x → Goes (round env x) es (Ok (Go y)) → IsReadingState y
next-round env (Recovering start) y es never goes = absurd never
next-round env (Preparing start s names) y es never goes = absurd never
next-round env (Opening start s) y es never goes = absurd never
next-round env (Reading s i) y es reading goes = goes-on env (Reading s i) y es goes
next-round env (Finishing s i) y es reading goes = goes-on env (Finishing s i) y es goes
next-round env (Leaving s i) y es reading goes = goes-on env (Leaving s i) y es goes

-- how the last round of a run ends it
round-ends : (env : Environment) (x : RunState) (es : List Event) (r : Status) → IsReadingState x → (goes : Goes (round env x) es (Ok (Last r)))
    → opened_end r ≡ end_at (is_refused_at x r (first_answer (round env x) es (Ok (Last r)) goes))
round-ends env (Recovering start) es r never goes = absurd never
round-ends env (Preparing start s names) es r never goes = absurd never
round-ends env (Opening start s) es r never goes = absurd never
round-ends env (Reading s i) es r reading goes = line-end s.outcome r (goes-over env (Reading s i) es r goes)
round-ends env (Finishing s i) es r reading goes = line-end s.outcome r (goes-over env (Finishing s i) es r goes)
round-ends env (Leaving s i) es r reading goes =
    quit-end s.outcome (is_quit_refused s (first_answer (round env (Leaving s i)) es (Ok (Last r)) goes)) r (last-ends s es r goes)

reads-nothing : (x : RunState) → IsReadingState x → is_opening x ≡ false
reads-nothing (Recovering start) never = absurd never
reads-nothing (Preparing start s names) never = absurd never
reads-nothing (Opening start s) never = absurd never
reads-nothing (Reading s i) reading = refl
reads-nothing (Finishing s i) reading = refl
reads-nothing (Leaving s i) reading = refl

none-counted : (x : RunState) (es : List Event) → IsReadingState x → counted (is_opening x) es ≡ []
none-counted x es reading = ap (λ (b : Bool). counted b es) (reads-nothing x reading)

-- a loop of lines opens no folder, and ends only as a session does
loop-reads : (env : Environment) {x : RunState} {es : List Event} {out : Result Status Stop} → IsReadingState x → (loop : Loop (round env) x es out)
    → (events_at is_opening loop ≡ []) × EndsLike (end_at (refused_at_end loop)) out
loop-reads env {x = x} {out = out} reading (again {y = y} front rest is goes more) =
    let on : IsReadingState y = next-round env x y front reading goes in
    let later = loop-reads env on more in
    (ap (λ (l : List Event). l ++ events_at is_opening more) (none-counted x front reading) ∙ later.0, later.1)
loop-reads env {x = x} {es = es} reading (last {r = r} goes) = (none-counted x es reading, round-ends env x es r reading goes)
loop-reads env {x = x} {es = es} reading (cut goes) = (none-counted x es reading, tt)

-- the events of a play's first round, and how the run ends after it, whose last quit was refused or not
abbrev Continues : Bool → Play (Next RunState Status) → List Event → Result Status Stop → Type 0
Continues b p es out =
    ((y : RunState) × Goes p es (Ok (Go y)) × (IsReadingState y → EndsLike (end_at b) out))
    ⊎ ((b ≡ false) × (((r : Status) × (out ≡ Ok r) × Goes p es (Ok (Last r))) ⊎ ((cause : Stop) × (out ≡ Err cause) × Goes p es (Err cause))))

-- what follows a round without a load that ends the run so, or goes on to read
abbrev EndsWith : Status → Next RunState Status → Type 0
EndsWith e (Go y) = IsReadingState y × (e ≡ status.Done)
EndsWith e (Last r) = opened_end r ≡ e

-- the run reads on and ends by its last quit, or it ends with its first round
abbrev EndsAfter : Bool → Status → Result Status Stop → Type 0
EndsAfter b e out = ((e ≡ status.Done) × EndsLike (end_at b) out) ⊎ ((b ≡ false) × EndsLike e out)

continues-with : (b : Bool) (e : Status) (p : Play (Next RunState Status)) (es : List Event) (out : Result Status Stop) → AllEnds (EndsWith e) p → Continues b p es out → EndsAfter b e out
continues-with b e p es out ends (inl (y, goes, reads)) =
    let on = goes-ends (EndsWith e) p es (Go y) ends goes in
    inl (on.1, reads on.0)
continues-with b e p es out ends (inr (none, inl (r, is, goes))) = inr (none, subst (EndsLike e) (sym is) (goes-ends (EndsWith e) p es (Last r) ends goes))
continues-with b e p es out ends (inr (none, inr (cause, is, goes))) = inr (none, subst (EndsLike e) (sym is) tt)

-- so an opening leads on, whose ends are plain
ends-with : (env : Environment) (s : SessionState) (e : Status) (p : Play (Next RunState Status)) → Opens env s.actor s.token s.outcome e p → AllEnds (EndsWith e) p
ends-with env s e p obeys = obeys-ends (May env s.actor s.token loads_nothing) after_act (OpenEnds env s.actor s.token s.outcome e) (EndsWith e) so (nothing_met, no_input) p obeys
  where
    so : (x : Standing) (n : Next RunState Status) → OpenEnds env s.actor s.token s.outcome e x n → EndsWith e n
    so ((true, b), i) (Go y) never = absurd never
    so ((false, b), i) (Go y) (same, of, reads, done, came) = (reads, done)
    so ((true, b), i) (Last r) never = absurd never
    so ((false, b), i) (Last r) (is, opened, free, other) = opened ∙ is

-- and loads nothing
loads-none : (env : Environment) (s : SessionState) (e : Status) (p : Play (Next RunState Status)) → Opens env s.actor s.token s.outcome e p → AllActs loads_nothing p
loads-none env s e p obeys = obeys-acts (May env s.actor s.token loads_nothing) after_act loads_nothing (OpenEnds env s.actor s.token s.outcome e) (λ x act may. may.1) (nothing_met, no_input) p obeys

-- how an end and what was seen belong together
record Matches (Bad : Type 0) (start : Option Start) (es : List Event) (e : Status) : Type 0 where
  refused : e ≡ status.Refused → some_load_saw saw_held es ≡ true
  held : some_load_saw saw_held es ≡ true → e ≡ status.Refused
  none : e ≡ status.NoFolder → OpensNone Bad start es
  opens_none : OpensNone Bad start es → e ≡ status.NoFolder
  no_mail : e ≡ status.NoMail → OpensNoMail start es
  opens_no_mail : OpensNoMail start es → e ≡ status.NoMail

or-true : (a : Bool) → (a || true) ≡ true
or-true true = refl
or-true false = refl

or-false : (a : Bool) → (a || false) ≡ a
or-false true = refl
or-false false = refl

explained-cut : (Bad : Type 0) (start : Option Start) (es : List Event) (b : Bool) (out : Result Status Stop) (cause : Stop) → out ≡ Err cause → IsOpeningExplained Bad start out es b
explained-cut Bad start es b out cause is = subst (λ o. IsOpeningExplained Bad start o es b) (sym is) (record {
  refused_only = λ e. absurd (cc e);
  refused_always = λ h. tt;
  no_folder_only = λ e. absurd (cc e);
  no_folder_always = λ h. tt;
  no_mail_only = λ e. absurd (cc e);
  no_mail_always = λ h. tt;
})

-- a run that ended with its first round
explained-shut : (Bad : Type 0) (start : Option Start) (es : List Event) (out : Result Status Stop) (e : Status) → Matches Bad start es e → EndsLike e out → IsOpeningExplained Bad start out es false
explained-shut Bad start es (Ok r) e m same = record {
  refused_only = λ is. or-false (some_load_saw saw_held es) ∙ m.refused (sym same ∙ ap opened_end (came-same r status.Refused is));
  refused_always = λ h. other-end r status.Refused (same ∙ m.held (sym (or-false (some_load_saw saw_held es)) ∙ h)) (λ e. absurd (cc e));
  no_folder_only = λ is. m.none (sym same ∙ ap opened_end (came-same r status.NoFolder is));
  no_folder_always = λ h. other-end r status.NoFolder (same ∙ m.opens_none h) (λ e. absurd (cc e));
  no_mail_only = λ is. m.no_mail (sym same ∙ ap opened_end (came-same r status.NoMail is));
  no_mail_always = λ h. other-end r status.NoMail (same ∙ m.opens_no_mail h) (λ e. absurd (cc e));
}
explained-shut Bad start es (Err cause) e m same = explained-cut Bad start es false (Err cause) cause refl

-- a run that opened its folder and ended by its last quit
explained-open : (b : Bool) (Bad : Type 0) (start : Option Start) (es : List Event) (out : Result Status Stop) → Matches Bad start es status.Done
    → EndsLike (end_at b) out → IsOpeningExplained Bad start out es b
explained-open true Bad start es (Ok r) m same = record {
  refused_only = λ is. or-true (some_load_saw saw_held es);
  refused_always = λ h. other-end r status.Refused same (λ e. absurd (cc e));
  no_folder_only = λ is. let e : status.Refused ≡ status.NoFolder = sym same ∙ ap opened_end (came-same r status.NoFolder is) in absurd (cc e);
  no_folder_always = λ h. absurd (cc (m.opens_none h));
  no_mail_only = λ is. let e : status.Refused ≡ status.NoMail = sym same ∙ ap opened_end (came-same r status.NoMail is) in absurd (cc e);
  no_mail_always = λ h. absurd (cc (m.opens_no_mail h));
}
explained-open false Bad start es (Ok r) m same = record {
  refused_only = λ is. let e : status.Done ≡ status.Refused = sym same ∙ ap opened_end (came-same r status.Refused is) in absurd (cc e);
  refused_always = λ h. absurd (cc (m.held (sym (or-false (some_load_saw saw_held es)) ∙ h)));
  no_folder_only = λ is. let e : status.Done ≡ status.NoFolder = sym same ∙ ap opened_end (came-same r status.NoFolder is) in absurd (cc e);
  no_folder_always = λ h. absurd (cc (m.opens_none h));
  no_mail_only = λ is. let e : status.Done ≡ status.NoMail = sym same ∙ ap opened_end (came-same r status.NoMail is) in absurd (cc e);
  no_mail_always = λ h. absurd (cc (m.opens_no_mail h));
}
explained-open b Bad start es (Err cause) m same = explained-cut Bad start es b (Err cause) cause refl

explained-as : (Bad : Type 0) (start : Option Start) (es : List Event) (b : Bool) (out : Result Status Stop) (e : Status) → Matches Bad start es e
    → EndsAfter b e out → IsOpeningExplained Bad start out es b
explained-as Bad start es b out e m (inl (done, same)) = explained-open b Bad start es out (subst (Matches Bad start es) done m) same
explained-as Bad start es b out e m (inr (none, same)) = subst (IsOpeningExplained Bad start out es) (sym none) (explained-shut Bad start es out e m same)

no-end : {A : Type 0} (q : Bool) → q ≡ false → q ≡ true → A
no-end q f t = absurd (cc (f, t))

-- the events of a play that loads nothing
record LoadsNone (named : Bool) (es : List Event) : Type 0 where
  held : Unseen saw_held es
  folder : Unseen (saw_no_folder named) es
  mail : Unseen (saw_no_mail named) es

matches-none : (es : List Event) → LoadsNone true es → Matches ⊥ None es status.Usage
matches-none es u = record {
  refused = λ is. absurd (cc is);
  held = λ h. no-end _ u.held h;
  none = λ is. absurd (cc is);
  opens_none = none-opens;
  no_mail = λ is. absurd (cc is);
  opens_no_mail = λ h. no-end _ u.mail h;
}
  where
    none-opens : OpensNone ⊥ None es → status.Usage ≡ status.NoFolder
    none-opens (inl never) = absurd never
    none-opens (inr h) = no-end _ u.folder h

matches-bad : (Bad : Type 0) (o : Options) (es : List Event) → Bad → LoadsNone o.folder es → Matches Bad (Some (words.Opens o)) es status.NoFolder
matches-bad Bad o es bad u = record {
  refused = λ is. absurd (cc is);
  held = λ h. no-end _ u.held h;
  none = λ is. inl bad;
  opens_none = λ h. refl;
  no_mail = λ is. absurd (cc is);
  opens_no_mail = λ h. no-end _ u.mail h;
}

matches-found : (Bad : Type 0) (o : Options) (name : List ℕ) (rest : List Event) (f : Found) → (Bad → ⊥) → LoadsNone o.folder rest
    → Matches Bad (Some (words.Opens o)) (event.Load name (seen_of f) ∷ rest) (end_of o.folder f)
matches-found Bad o name rest (found.Bytes bytes true) good u = record {
  refused = λ is. refl;
  held = λ h. refl;
  none = λ is. absurd (cc is);
  opens_none = opens;
  no_mail = λ is. absurd (cc is);
  opens_no_mail = λ h. no-end _ u.mail h;
}
  where
    opens : OpensNone Bad (Some (words.Opens o)) (event.Load name (seen.Bytes bytes true) ∷ rest) → status.Refused ≡ status.NoFolder
    opens (inl bad) = absurd (good bad)
    opens (inr h) = no-end _ u.folder h
matches-found Bad o name rest (found.TooLarge n) good u = record {
  refused = λ is. absurd (cc is);
  held = λ h. no-end _ u.held h;
  none = λ is. inr refl;
  opens_none = λ h. refl;
  no_mail = λ is. absurd (cc is);
  opens_no_mail = λ h. no-end _ u.mail h;
}
matches-found Bad o name rest (found.Bytes bytes false) good u =
    let m = is_no_mail o.folder bytes in
    let n = is_no_folder bytes in
    record {
      refused = refuses m n;
      held = λ h. no-end _ u.held h;
      none = nones m n;
      opens_none = opens m n;
      no_mail = mails m n;
      opens_no_mail = opens-mail m n;
    }
  where
    refuses : (m n : Bool) → end_by m n ≡ status.Refused → some_load_saw saw_held rest ≡ true
    refuses true n is = absurd (cc is)
    refuses false true is = absurd (cc is)
    refuses false false is = absurd (cc is)

    nones : (m n : Bool) → end_by m n ≡ status.NoFolder → Bad ⊎ (((not m && n) || some_load_saw (saw_no_folder o.folder) rest) ≡ true)
    nones true n is = absurd (cc is)
    nones false true is = inr refl
    nones false false is = absurd (cc is)

    opens : (m n : Bool) → Bad ⊎ (((not m && n) || some_load_saw (saw_no_folder o.folder) rest) ≡ true) → end_by m n ≡ status.NoFolder
    opens true n (inl bad) = absurd (good bad)
    opens true n (inr h) = no-end _ u.folder h
    opens false true h = refl
    opens false false (inl bad) = absurd (good bad)
    opens false false (inr h) = no-end _ u.folder h

    mails : (m n : Bool) → end_by m n ≡ status.NoMail → (m || some_load_saw (saw_no_mail o.folder) rest) ≡ true
    mails true n is = refl
    mails false true is = absurd (cc is)
    mails false false is = absurd (cc is)

    opens-mail : (m n : Bool) → (m || some_load_saw (saw_no_mail o.folder) rest) ≡ true → end_by m n ≡ status.NoMail
    opens-mail true n h = refl
    opens-mail false n h = no-end _ u.mail h

-- the load, and what follows it
abbrev AfterLoad : Bool → List ℕ → (Found → Play (Next RunState Status)) → List Event → Result Status Stop → Type 0
AfterLoad b name go es out =
    ((f : Found) × (rest : List Event) × (es ≡ event.Load name (seen_of f) ∷ rest) × Continues b (go f) rest out)
    ⊎ ((cause : Stop) × (out ≡ Err cause))

joined : (name : List ℕ) (f : Found) (es front rest : List Event) → es ≡ front ++ rest → front ≡ event.Load name (seen_of f) ∷ [] → es ≡ event.Load name (seen_of f) ∷ rest
joined name f es front rest is did = is ∙ ap (λ (l : List Event). l ++ rest) did

after-load : (b : Bool) (name : List ℕ) (go : Found → Play (Next RunState Status)) (es : List Event) (out : Result Status Stop) → Continues b (Ask (Read name) go) es out → AfterLoad b name go es out
after-load b name go es out (inl (y, inl (f, front, rest, is, did, goes), reads)) = inl (f, rest, joined name f es front rest is did, inl (y, goes, reads))
after-load b name go es out (inl (y, inr (cause, other, part), reads)) = absurd (cc other)
after-load b name go es out (inr (none, inl (r, ended, inl (f, front, rest, is, did, goes)))) = inl (f, rest, joined name f es front rest is did, inr (none, inl (r, ended, goes)))
after-load b name go es out (inr (none, inl (r, ended, inr (cause, other, part)))) = absurd (cc other)
after-load b name go es out (inr (none, inr (cause, is, goes))) = inr (cause, is)

-- what a play that loads nothing saw
continues-unseen : (test : Seen → Bool) (b : Bool) (p : Play (Next RunState Status)) (es : List Event) (out : Result Status Stop) → AllActs loads_nothing p → Continues b p es out → Unseen test es
continues-unseen test b p es out all (inl (y, goes, reads)) = goes-unseen test p es (Ok (Go y)) all goes
continues-unseen test b p es out all (inr (none, inl (r, is, goes))) = goes-unseen test p es (Ok (Last r)) all goes
continues-unseen test b p es out all (inr (none, inr (cause, is, goes))) = goes-unseen test p es (Err cause) all goes

continues-blind : (named b : Bool) (p : Play (Next RunState Status)) (es : List Event) (out : Result Status Stop) → AllActs loads_nothing p → Continues b p es out → LoadsNone named es
continues-blind named b p es out all goes = record {
  held = continues-unseen saw_held b p es out all goes;
  folder = continues-unseen (saw_no_folder named) b p es out all goes;
  mail = continues-unseen (saw_no_mail named) b p es out all goes;
}

explained-found : (env : Environment) (Bad : Type 0) (s : SessionState) (o : Options) (name file : List ℕ) (es : List Event) (b : Bool)
    (out : Result Status Stop) → (Bad → ⊥) → AfterLoad b file (loaded s o name) es out
    → IsOpeningExplained Bad (Some (words.Opens o)) out es b
explained-found env Bad s o name file es b out good (inr (cause, is)) = explained-cut Bad (Some (words.Opens o)) es b out cause is
explained-found env Bad s o name file es b out good (inl (f, rest, is, goes)) =
    let p = loaded s o name f in
    let obeys = loaded-obeys env s.actor s.token s o name f (refl, refl) in
    let u = continues-blind o.folder b p rest out (loads-none env s (end_of o.folder f) p obeys) goes in
    let E : List Event → Type 0 = λ es. IsOpeningExplained Bad (Some (words.Opens o)) out es b in
    let e = end_of o.folder f in
    subst E (sym is) (explained-as Bad (Some (words.Opens o)) _ b out e (matches-found Bad o file rest f good u) (continues-with b e p rest out (ends-with env s e p obeys) goes))

explained-said : (Bad : Type 0) (start : Option Start) (text : List ℕ) (e : Status) (es : List Event) (b : Bool) (out : Result Status Stop)
    → opened_end e ≡ e → Continues b (says_and_ends text e) es out
    → (LoadsNone (is_named start) es → Matches Bad start es e) → IsOpeningExplained Bad start out es b
explained-said Bad start text e es b out plain goes to =
    let u = continues-blind (is_named start) b (says_and_ends text e) es out (refl, λ u. tt) goes in
    explained-as Bad start es b out e (to u) (continues-with b e (says_and_ends text e) es out (λ u. plain) goes)

-- a draft that begins in the folder's place
matches-sent : (start : Start) (es : List Event) → LoadsNone (options_of start).folder es → Matches ⊥ (Some start) es status.Done
matches-sent start es u = record {
  refused = λ is. absurd (cc is);
  held = λ h. no-end _ u.held h;
  none = λ is. absurd (cc is);
  opens_none = none-opens;
  no_mail = λ is. absurd (cc is);
  opens_no_mail = λ h. no-end _ u.mail h;
}
  where
    none-opens : OpensNone ⊥ (Some start) es → status.Done ≡ status.NoFolder
    none-opens (inl never) = absurd never
    none-opens (inr h) = no-end _ u.folder h

explained-sent : (env : Environment) (b : Bool) (t : SessionState) (start : Start) (es : List Event) (at_end : Bool) (out : Result Status Stop)
    → Continues at_end (sent b t) es out → IsOpeningExplained ⊥ (Some start) out es at_end
explained-sent env b t start es at_end out goes =
    let obeys = sent-obeys env t.actor t.token b t (refl, refl) in
    let u = continues-blind (options_of start).folder at_end (sent b t) es out (loads-none env t status.Done (sent b t) obeys) goes in
    explained-as ⊥ (Some start) es at_end out status.Done (matches-sent start es u) (continues-with at_end status.Done (sent b t) es out (ends-with env t status.Done (sent b t) obeys) goes)

explained-folder : (env : Environment) (o : Options) (s : SessionState) (es : List Event) (at_end : Bool) (out : Result Status Stop) → Continues at_end (starting s o) es out
    → IsOpeningExplained (IsNoName s.here (folder_name s o)) (Some (words.Opens o)) out es at_end
explained-folder env o s es at_end out goes = word (folder_name s o) refl goes
  where
    Bad : Type 0
    Bad = IsNoName s.here (folder_name s o)

    said : (line : List ℕ) → Bad → Continues at_end (ends_with o line status.NoFolder) es out → IsOpeningExplained Bad (Some (words.Opens o)) out es at_end
    said line bad goes = explained-said Bad (Some (words.Opens o)) (heard o line) status.NoFolder es at_end out refl goes (λ u. matches-bad Bad o es bad u)

    named : (name : List ℕ) → folder_name s o ≡ Ok name → (b : Bool) → is_short_name (placed s.here name) ≡ b
        → Continues at_end (if b then Ask (Read (placed s.here name)) (loaded s o name) else ends_with o (with_feed (name ++ codes ": bad name")) status.NoFolder) es out → IsOpeningExplained Bad (Some (words.Opens o)) out es at_end
    named name word true short goes =
        explained-found env Bad s o name (placed s.here name) es at_end out (λ bad. no-end _ (subst (IsNoName s.here) word bad) short)
        (after-load at_end (placed s.here name) (loaded s o name) es out goes)
    named name word false bad goes = said (with_feed (name ++ codes ": bad name")) (subst (IsNoName s.here) (sym word) bad) goes

    word : (name : OrFault (List ℕ)) → folder_name s o ≡ name → Continues at_end (with_name_or_fault s o name) es out → IsOpeningExplained Bad (Some (words.Opens o)) out es at_end
    word (Ok name) is goes = named name is (is_short_name (placed s.here name)) refl goes
    word (Err line) is goes = said line (subst (IsNoName s.here) (sym is) tt) goes

explained-opening : (env : Environment) (start : Option Start) (s : SessionState) (es : List Event) (at_end : Bool) (out : Result Status Stop) → Continues at_end (opening start s) es out
    → IsOpeningExplained (OpensBadly (Opening start s)) start out es at_end
explained-opening env None s es at_end out goes = explained-said ⊥ None usage status.Usage es at_end out refl goes (matches-none es)
explained-opening env (Some (words.Opens o)) s es at_end out goes = explained-folder env o s es at_end out goes
explained-opening env (Some (words.Sends o)) s es at_end out goes = explained-sent env (asks_in s o) (begun_in s o) (words.Sends o) es at_end out goes

-- what is said of a bad word may be said in other words
pub explained-by : (A B : Type 0) → (A → B) → (B → A) → (start : Option Start) (out : Result Status Stop) (es : List Event) (b : Bool)
    → IsOpeningExplained A start out es b → IsOpeningExplained B start out es b
explained-by A B to back start out es b x = record {
  refused_only = x.refused_only;
  refused_always = x.refused_always;
  no_folder_only = λ is. there (x.no_folder_only is);
  no_folder_always = λ h. x.no_folder_always (home h);
  no_mail_only = x.no_mail_only;
  no_mail_always = x.no_mail_always;
}
  where
    there : OpensNone A start es → OpensNone B start es
    there (inl a) = inl (to a)
    there (inr h) = inr h

    home : OpensNone B start es → OpensNone A start es
    home (inl b) = inl (back b)
    home (inr h) = inr h

not-opening : (x : RunState) → IsReadingState x → OpensBadly x → ⊥
not-opening (Recovering start) never bad = absurd never
not-opening (Preparing start s names) never bad = absurd never
not-opening (Opening start s) never bad = absurd never
not-opening (Reading s i) reading never = never
not-opening (Finishing s i) reading never = never
not-opening (Leaving s i) reading never = never

-- a loop of lines opens no folder badly
none-badly : (env : Environment) {x : RunState} {es : List Event} {out : Result Status Stop} → IsReadingState x → (loop : Loop (round env) x es out) → OpenedBadly loop → ⊥
none-badly env {x = x} reading (again front rest is goes more) (inl bad) = not-opening x reading bad
none-badly env {x = x} reading (again {y = y} front rest is goes more) (inr bad) = none-badly env (next-round env x y front reading goes) more bad
none-badly env {x = x} reading (last goes) bad = not-opening x reading bad
none-badly env {x = x} reading (cut goes) bad = not-opening x reading bad

either-left : {A B : Type 0} → (B → ⊥) → A ⊎ B → A
either-left never (inl a) = a
either-left never (inr b) = absurd (never b)

-- a run from its opening tells why it opened no folder, and why it was refused
pub opening-explained : (env : Environment) (start : Option Start) (s : SessionState) (es : List Event) (out : Result Status Stop) (loop : Loop (round env) (Opening start s) es out)
    → IsOpeningExplained (OpenedBadly loop) start out (events_at is_opening loop) (refused_at_end loop)
opening-explained env start s es out (again {y = y} front rest is goes more) =
    let on = goes-on env (Opening start s) y front goes in
    let later = loop-reads env on more in
    let b = refused_at_end more in
    let Bad : Type 0 = OpensBadly (Opening start s) in
    let E : List Event → Type 0 = λ es. IsOpeningExplained (Bad ⊎ OpenedBadly more) start out es b in
    subst E (sym (ap (λ (l : List Event). front ++ l) later.0 ∙ append-nil front))
    (explained-by Bad (Bad ⊎ OpenedBadly more) inl (either-left (none-badly env on more)) start out front b (explained-opening env start s front b out (inl (y, goes, λ reading. later.1))))
opening-explained env start s es out (last {r = r} goes) = explained-opening env start s es false out (inr (refl, inl (r, refl, goes)))
opening-explained env start s es out (cut {cause = cause} goes) = explained-opening env start s es false out (inr (refl, inr (cause, refl, goes)))

pub or-later : {A B : Type 0} → (A → ⊥) → A ⊎ B → B
or-later never (inl a) = absurd (never a)
or-later never (inr b) = b

-- where a start-up file's round ends the run, it ends as a line does
files-last : (o : SendOutcome) (start : Start) (r : Status) → EndsBy o r → IsOpeningExplained ⊥ (Some start) (Ok r) [] (is_refused_before o r)
files-last o start r by_line = explained-open (is_refused_before o r) ⊥ (Some start) [] (Ok r) (matches-sent start [] (record { held = refl; folder = refl; mail = refl })) (line-end o r by_line)

-- a round before the opening, and what follows it
files-then : (env : Environment) (start : Start) (x y : RunState) (es front rest : List Event) (out : Result Status Stop) → IsBefore start x
    → (is : es ≡ front ++ rest) → (goes : Goes (round env x) front (Ok (Go y)))
    → (more : Loop (round env) y rest out) → (IsBefore start y → IsOpeningExplained (OpenedBadly more) (Some start) out (events_at is_opening more) (refused_at_end more))
    → IsOpeningExplained (OpensBadly x ⊎ OpenedBadly more) (Some start) out (counted (is_opening x) front ++ events_at is_opening more) (refused_at_end more)
files-then env start (Recovering o) y es front rest out never is goes more later = absurd never
files-then env start (Preparing b s names) y es front rest out before is goes more later =
    let on : IsBefore b y = goes-on env (Preparing b s names) y front goes in
    let at : IsBefore start y = subst (λ (b : Start). IsBefore b y) before on in
    explained-by (OpenedBadly more) (⊥ ⊎ OpenedBadly more) inr (or-later (λ never. never)) (Some start) out (events_at is_opening more) (refused_at_end more) (later at)
files-then env start (Opening o s) y es front rest out before is goes more later =
    let whole = opening-explained env o s es out (again front rest is goes more) in
    let Bad : Type 0 = OpensBadly (Opening o s) ⊎ OpenedBadly more in
    subst (λ (p : Option Start). IsOpeningExplained Bad p out (front ++ events_at is_opening more) (refused_at_end more)) before whole
files-then env start (Reading s i) y es front rest out never is goes more later = absurd never
files-then env start (Finishing s i) y es front rest out never is goes more later = absurd never
files-then env start (Leaving s i) y es front rest out never is goes more later = absurd never

-- a round before the opening that ends the run
files-over : (env : Environment) (start : Start) (x : RunState) (es : List Event) (r : Status) → IsBefore start x → (goes : Goes (round env x) es (Ok (Last r)))
    → IsOpeningExplained (OpensBadly x) (Some start) (Ok r) (counted (is_opening x) es) (is_refused_at x r (first_answer (round env x) es (Ok (Last r)) goes))
files-over env start (Recovering o) es r never goes = absurd never
files-over env start (Preparing b s names) es r before goes =
    files-last s.outcome start r (goes-over env (Preparing b s names) es r goes)
files-over env start (Opening o s) es r before goes =
    subst (λ (p : Option Start). IsOpeningExplained (OpensBadly (Opening o s)) p (Ok r) es false) before (explained-opening env o s es false (Ok r) (inr (refl, inl (r, refl, goes))))
files-over env start (Reading s i) es r never goes = absurd never
files-over env start (Finishing s i) es r never goes = absurd never
files-over env start (Leaving s i) es r never goes = absurd never

-- a run tells so from its start-up files on too
pub files-explained : (env : Environment) (start : Start) {x : RunState} {es : List Event} {out : Result Status Stop} → IsBefore start x → (loop : Loop (round env) x es out)
    → IsOpeningExplained (OpenedBadly loop) (Some start) out (events_at is_opening loop) (refused_at_end loop)
files-explained env start {x = x} {es = es} {out = out} before (again {y = y} front rest is goes more) =
    files-then env start x y es front rest out before is goes more (λ on. files-explained env start on more)
files-explained env start {x = x} {es = es} before (last {r = r} goes) = files-over env start x es r before goes
files-explained env start {x = x} {es = es} before (cut {cause = cause} goes) = explained-cut _ (Some start) _ false (Err cause) cause refl
