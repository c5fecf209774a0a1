-- The parts of a delivery make the whole.
use Rattle.std.proofs.Common.{◌≡◌, ℕ, Bool, true, false, List, [], ◌∷◌, ◌++◌, refl, sym, ap, ◌∙◌, ◌||◌, map, subst, append-nil, append_assoc}
use Rattle.std.specs.Prelude.{IsTrue, IfOk}
use Rattle.std.specs.List.{All, list_any}
use Rattle.std.specs.Str.{bytes_eq}
use Rattle.std.proofs.lemmas.List.Elements.{All-nil, All-cons}
use Rattle.std.proofs.lemmas.Grind.{flat_map-append}
use Rattle.std.specs.declared.option.Option.{Option}
use Rattle.std.specs.declared.option.Option.TheVariants.{Some, None}
use Rattle.std.specs.declared.result.Result.{Result}
use Rattle.std.specs.declared.result.Result.TheVariants.{Ok, Err}
use Rattle.host_port.specs.declared.event.Event.{Event}
use Rattle.host_port.specs.Calls.{Counts, NeverFall}
use Rattle.host_port.proofs.RanLemmas.{rose-back}
use Rattle.mail_text.specs.Lines.{with_feed}
use Rattle.mail_dates.specs.declared.moment.Moment.{Moment}
use Rattle.mbox_scan.specs.Mailbox.{trimmed}
use Rattle.folder_change.specs.declared.change.Change.{Change}
use Rattle.folder_change.specs.declared.change.Change.TheVariants.{Add}
use Rattle.folder_change.specs.Changes.{name_of, is_rewrite}
use Rattle.commit_machine.specs.Records.{has}
use Rattle.draft_text.specs.Texts.{quoted_line, opening_line}
use Rattle.session_play.specs.declared.stop.Stop.{Stop}
use Rattle.session_play.specs.declared.stop.Stop.TheVariants as stop
use Rattle.session_play.specs.declared.changing.Attempt.{Attempt}
use Rattle.session_play.specs.Committing.{wanted_of}
use Rattle.session_play.specs.Input.{Input}
use Rattle.session_play.specs.Play.{Play, Ask, Ret, Line, Now, Changes, Goes, Next, Go, Last, Loop, Caused, bind}
use Rattle.session_play.proofs.PlayLemmas.{at-memory, goes-then, goes-cut, goes-as}
use Rattle.session_play.proofs.LoopLemmas.{SoFar, so-far-more, so-far-last, so-far-cut}
use Rattle.mail_delivery.specs.declared.environment.Environment.{Environment}
use Rattle.mail_delivery.specs.declared.words.Request.{Request}
use Rattle.mail_delivery.specs.declared.status.DeliverStatus.{DeliverStatus}
use Rattle.mail_delivery.specs.Words.{actor, mailbox}
use Rattle.mail_delivery.specs.Statuses.{status_of}
use Rattle.mail_delivery.specs.Delivered.{quoted_lines, delivered}
use Rattle.mail_delivery.specs.Meaning.{Taken, taken, nothing_taken, additions, committing, delivering, after_line, round}
use Rattle.mail_delivery.specs.Steps.{Put, ended, TookLine, TookBody, OfLines}

-- one line more
quoted-more : (lines : List (List ℕ)) (line : List ℕ) → quoted_lines (lines ++ line ∷ []) ≡ quoted_lines lines ++ with_feed (quoted_line line)
quoted-more lines line =
    flat_map-append (λ (l : List ℕ). with_feed (quoted_line l)) lines (line ∷ [])
    ∙ ap (λ (x : List ℕ). quoted_lines lines ++ x) (append-nil (with_feed (quoted_line line)))

abbrev TakesOf : Input → Play (Option (List ℕ) × Input)
TakesOf i = Ask (Line i) Ret

module _ (request : Request) (env : Environment) where
  abbrev then : List (List ℕ) → Option (List ℕ) × Input → Play (Next Taken DeliverStatus)
  then lines a = after_line request env lines a.0 a.1

  pub line-more : (i j : Input) (line body new : List ℕ) (es : List Event) → new ≡ body ++ with_feed (quoted_line line) → Goes (TakesOf i) es (Ok (Some line, j))
      → (lines : List (List ℕ)) → body ≡ quoted_lines lines → TookLine request env lines i j (Ok true) new es
  line-more i j line body new es is goes lines of = (
    line,
    is ∙ ap (λ (x : List ℕ). x ++ with_feed (quoted_line line)) of ∙ sym (quoted-more lines line),
    goes-as (TakesOf i) (then lines) (Some line, j) (Go (taken j (lines ++ line ∷ []))) es refl goes,
  )

  pub line-over : (i j : Input) (body : List ℕ) (es : List Event) → Goes (TakesOf i) es (Ok (None, j))
      → (lines : List (List ℕ)) → body ≡ quoted_lines lines → TookLine request env lines i j (Ok false) body es
  line-over i j body es goes lines of = (of, λ rest out more. goes-then (TakesOf i) (then lines) (None, j) (ended out) es rest goes more)

  pub line-short : (i j k : Input) (line new body : List ℕ) (es : List Event) → Goes (TakesOf i) es (Ok (Some line, j))
      → (lines : List (List ℕ)) → body ≡ quoted_lines lines → TookLine request env lines i k (Err stop.Memory) new es
  line-short i j k line new body es goes lines of =
      let out : Result (Next Taken DeliverStatus) Stop = Err stop.Memory in
      let whole = goes-then (TakesOf i) (then lines) (Some line, j) out es [] goes (at-memory (then lines (Some line, j))) in
      subst (λ (es : List Event). Goes (round request env (taken i lines)) es out) (append-nil es) whole

  -- the line that was taken is put behind the body, or memory runs out
  pub line-put : (i j : Input) (line body new : List ℕ) (r : Result Bool Stop) (es : List Event) → Put r body line new → Goes (TakesOf i) es (Ok (Some line, j))
      → (lines : List (List ℕ)) → body ≡ quoted_lines lines → TookLine request env lines i j r new es
  line-put i j line body new (Ok true) es put goes lines of = line-more i j line body new es put goes lines of
  line-put i j line body new (Ok false) es put goes lines of = absurd put
  line-put i j line body new (Err stop.Memory) es put goes lines of = line-short i j j line new body es goes lines of
  line-put i j line body new (Err stop.Input) es put goes lines of = absurd put
  line-put i j line body new (Err stop.Output) es put goes lines of = absurd put
  line-put i j line body new (Err stop.Disk) es put goes lines of = absurd put
  line-put i j line body new (Err stop.TooMuch) es put goes lines of = absurd put

  pub line-cut : (i k : Input) (cause : Stop) (new body : List ℕ) (es : List Event) → Goes (TakesOf i) es (Err cause)
      → (lines : List (List ℕ)) → body ≡ quoted_lines lines → TookLine request env lines i k (Err cause) new es
  line-cut i k cause new body es goes lines of = goes-cut (TakesOf i) (then lines) cause es goes

  -- lines were taken, of which the body is made
  pub record TookSome (i : Input) (body : List ℕ) (es : List Event) : Type 0 where
    pub lines : List (List ℕ)
    pub of : body ≡ quoted_lines lines
    pub so_far : SoFar (round request env) nothing_taken (taken i lines) es

  pub some-more : (i j : Input) (body new : List ℕ) (es fs : List Event) → TookSome i body es
      → ((lines : List (List ℕ)) → body ≡ quoted_lines lines → TookLine request env lines i j (Ok true) new fs) → TookSome j new (es ++ fs)
  some-more i j body new es fs so took =
      let t = took so.lines so.of in
      record {
        lines = so.lines ++ t.0 ∷ [];
        of = t.1;
        so_far = so-far-more (round request env) nothing_taken (taken i so.lines) (taken j (so.lines ++ t.0 ∷ [])) es fs so.so_far t.2;
      }

  -- the last round ends or is cut off
  ends-loop : (x : Taken) (es fs : List Event) (out : Result DeliverStatus Stop) → SoFar (round request env) nothing_taken x es
      → Goes (round request env x) fs (ended out) → Loop (round request env) nothing_taken (es ++ fs) out
  ends-loop x es fs (Ok s) so goes = so-far-last (round request env) nothing_taken x s es fs so goes
  ends-loop x es fs (Err cause) so goes = so-far-cut (round request env) nothing_taken x cause es fs so goes

  pub body-taken : (i j : Input) (body new : List ℕ) (es fs : List Event) → TookSome i body es
      → ((lines : List (List ℕ)) → body ≡ quoted_lines lines → TookLine request env lines i j (Ok false) new fs) → TookBody request env (Ok new) (es ++ fs)
  body-taken i j body new es fs so took =
      let t = took so.lines so.of in (
        so.lines,
        t.0,
        λ rest out more.
            let L : List Event → Type 0 = λ es. Loop (round request env) nothing_taken es out in
            subst L (sym (append_assoc es fs rest)) (ends-loop (taken i so.lines) es (fs ++ rest) out so.so_far (t.1 rest out more)),
      )

  pub body-cut : (i j : Input) (cause : Stop) (body new : List ℕ) (es fs : List Event) → TookSome i body es
      → ((lines : List (List ℕ)) → body ≡ quoted_lines lines → TookLine request env lines i j (Err cause) new fs) → TookBody request env (Err cause) (es ++ fs)
  body-cut i j cause body new es fs so took = so-far-cut (round request env) nothing_taken (taken i so.lines) cause es fs so.so_far (took so.lines so.of)

  -- the time was told, and the commit is carried out
  pub timed : (m : Moment) (body : List ℕ) (out : Result DeliverStatus Stop) (tz : List ℕ) (es fs : List Event)
      → ((lines : List (List ℕ)) → delivering request env lines ≡ Ask (Now tz) (committing request env lines))
      → Goes {R = Moment} (Ask (Now tz) Ret) es (Ok m) → OfLines body (λ lines. committing request env lines m) out fs → OfLines body (delivering request env) out (es ++ fs)
  timed m body out tz es fs same goes more lines of =
      let G : Play (Next Taken DeliverStatus) → Type 0 = λ p. Goes p (es ++ fs) (ended out) in
      subst G (sym (same lines)) (goes-then (Ask (Now tz) Ret) (committing request env lines) m (ended out) es fs goes (more lines of))

  pub untimed : (cause : Stop) (body : List ℕ) (tz : List ℕ) (es : List Event)
      → ((lines : List (List ℕ)) → delivering request env lines ≡ Ask (Now tz) (committing request env lines))
      → Goes {R = Moment} (Ask (Now tz) Ret) es (Err cause) → OfLines body (delivering request env) (Err cause) es
  untimed cause body tz es same goes lines of =
      let G : Play (Next Taken DeliverStatus) → Type 0 = λ p. Goes p es (Err cause) in
      subst G (sym (same lines)) (goes-cut (Ask (Now tz) Ret) (committing request env lines) cause es goes)

  -- the whole: the lines, and then the rest
  pub carried : (body : List ℕ) (out : Result DeliverStatus Stop) (es fs : List Event) → TookBody request env (Ok body) es
      → OfLines body (delivering request env) out fs → Loop (round request env) nothing_taken (es ++ fs) out
  carried body out es fs took more = took.2 fs out (more took.0 took.1)

-- ---- the names of the files of a delivery
pub mailbox-names : (text : List ℕ) (users : List (List ℕ)) → map name_of (additions text users) ≡ map mailbox users
mailbox-names text [] = refl
mailbox-names text (u ∷ us) = ap (λ (l : List (List ℕ)). mailbox u ∷ l) (mailbox-names text us)

pub any-changed : (cs : List Change) (name : List ℕ) → list_any (λ (c : Change). bytes_eq name (name_of c)) cs ≡ has (map name_of cs) name
any-changed [] name = refl
any-changed (c ∷ cs) name = ap (λ (b : Bool). bytes_eq name (name_of c) || b) (any-changed cs name)

-- none of them is rewritten
pub no-rewrite : (text : List ℕ) (users : List (List ℕ)) (P : Type 0) → All (λ (c : Change). IsTrue (is_rewrite c) → P) (additions text users)
no-rewrite text [] P = All-nil (λ (c : Change). IsTrue (is_rewrite c) → P)
no-rewrite text (u ∷ us) P = All-cons (λ (c : Change). IsTrue (is_rewrite c) → P) (Add (mailbox u) (text ∷ [])) (additions text us)
    (λ no. let same : false ≡ true = no in absurd (cc same)) (no-rewrite text us P)

-- ---- the commit
abbrev pub CommitOf : ℕ → List Change → Play DeliverStatus
CommitOf token cs = Ask (Changes (wanted_of actor token cs [])) (λ answer. Ret (status_of (map name_of cs) answer))

pub answered : (token : ℕ) (cs : List Change) (a : Attempt) (s : DeliverStatus) (es : List Event) → s ≡ status_of (map name_of cs) a
    → Goes {R = Attempt} (Ask (Changes (wanted_of actor token cs [])) Ret) es (Ok a) → Goes (CommitOf token cs) es (Ok s)
answered token cs a s es is goes =
    goes-as (Ask (Changes (wanted_of actor token cs [])) Ret) (λ answer. Ret (status_of (map name_of cs) answer)) a s es (ap (λ (s : DeliverStatus). Ret s) (sym is)) goes

pub unanswered : (token : ℕ) (cs : List Change) (cause : Stop) (es : List Event)
    → Goes {R = Attempt} (Ask (Changes (wanted_of actor token cs [])) Ret) es (Err cause) → Goes (CommitOf token cs) es (Err cause)
unanswered token cs cause es goes = goes-cut (Ask (Changes (wanted_of actor token cs [])) Ret) (λ answer. Ret (status_of (map name_of cs) answer)) cause es goes

-- a play whose end is that of the delivery
last-goes : (p : Play DeliverStatus) (out : Result DeliverStatus Stop) (es : List Event) → Goes p es out → Goes (bind p (λ s. Ret (Last s))) es (ended out)
last-goes p (Ok s) es goes = goes-as p (λ s. Ret (Last s)) s (Last s) es refl goes
last-goes p (Err cause) es goes = goes-cut p (λ s. Ret (Last s)) cause es goes

pub committed : (request : Request) (env : Environment) (m : Moment) (body : List ℕ) (cs : List Change) (out : Result DeliverStatus Stop) (es : List Event)
    → cs ≡ additions (trimmed (with_feed (opening_line request.sender m) ++ body)) request.users → Goes (CommitOf env.token cs) es out → OfLines body (λ lines. committing request env lines m) out es
unfolding delivered
committed request env m body cs out es is goes lines of =
    let text = delivered request.sender lines m in
    let same : cs ≡ additions text request.users = is ∙ ap (λ (b : List ℕ). additions (trimmed (with_feed (opening_line request.sender m) ++ b)) request.users) of in
    let P : List (List ℕ) → Type 0 = λ names.
    Goes (Ask (Changes (wanted_of actor env.token (additions text request.users) [])) (λ answer. Ret (Last (status_of names answer)))) es (ended out) in
    subst P (mailbox-names text request.users) (last-goes (CommitOf env.token (additions text request.users)) out es (subst (λ (cs : List Change). Goes (CommitOf env.token cs) es out) same goes))

pub uncommitted : (request : Request) (env : Environment) (m : Moment) (body : List ℕ) → OfLines body (λ lines. committing request env lines m) (Err stop.Memory) []
uncommitted request env m body lines of = at-memory (committing request env lines m)

-- ---- causes and counts
pub put-caused : (old new : Counts) (r : Result Bool Stop) (body line now : List ℕ) → Put r body line now → Caused old new r
put-caused old new (Ok true) body line now put = tt
put-caused old new (Ok false) body line now put = tt
put-caused old new (Err stop.Memory) body line now put = tt
put-caused old new (Err stop.TooMuch) body line now put = tt
put-caused old new (Err stop.Input) body line now put = absurd put
put-caused old new (Err stop.Output) body line now put = absurd put
put-caused old new (Err stop.Disk) body line now put = absurd put

pub caused-since : {T : Type 0} (a b c : Counts) (r : Result T Stop) → NeverFall a b → Caused b c r → Caused a c r
caused-since a b c (Ok t) fall u = tt
caused-since a b c (Err stop.Input) fall rose = rose-back a.ins b.ins c.ins fall.ins rose
caused-since a b c (Err stop.Output) fall rose = rose-back a.outs b.outs c.outs fall.outs rose
caused-since a b c (Err stop.Disk) fall rose = rose-back a.disks b.disks c.disks fall.disks rose
caused-since a b c (Err stop.TooMuch) fall u = tt
caused-since a b c (Err stop.Memory) fall u = tt

pub put-progress : (r : Result Bool Stop) (P : Type 0) → P → IfOk r (λ more. IsTrue more → P)
put-progress (Ok more) P p = λ yes. p
put-progress (Err cause) P p = tt

-- a request and an environment, where any will do
pub any-request : Request
any-request = record { sender = []; users = [] }

pub any-env : Environment
any-env = record { pairs = []; token = 0 }
