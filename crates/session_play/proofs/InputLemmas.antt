-- One fill takes input, and a line is taken by fills.
use Rattle.std.proofs.Common.{◌≡◌, ℕ, ◌+◌, ◌<◌, ◌≤◌, Bool, true, false, List, [], ◌∷◌, ◌++◌, refl, sym, ◌∙◌, ap, subst, inl, inr, take, length, length-append, arith, append_assoc}
use Rattle.std.proofs.lemmas.List.{length-take-le, append-nil}
use Rattle.std.specs.declared.option.Option.{Option}
use Rattle.std.specs.declared.option.Option.TheVariants.{Some, None}
use Rattle.std.specs.declared.result.Result.{Result}
use Rattle.std.specs.declared.result.Result.TheVariants.{Ok, Err}
use Rattle.host_port.specs.declared.event.Event.{Event}
use Rattle.host_port.specs.declared.event.Event.TheVariants as event
use Rattle.host_port.specs.Disk.{Disk}
use Rattle.host_port.specs.Ran.{Agrees}
use Rattle.host_port.specs.Own.{own}
use Rattle.host_port.specs.Calls.{Counts}
use Rattle.std.specs.Prelude.{◌⊎◌, OnOk}
use Rattle.session_play.specs.declared.stop.Stop.{Stop}
use Rattle.session_play.specs.declared.stop.Stop.TheVariants as stop
use Rattle.session_play.specs.Input.{Input, input_limit, buffer_size, first_line, next_line, next_of, took, left, Reads}
use Rattle.session_play.specs.Feeds.{TookIn}
use Rattle.session_play.specs.Play.{Ask, Ret, Line, Goes, Caused, Partly, ReadsShort, TookSome, with_input}

-- where nothing can be handed out, the end was not seen
pub still_open : (i : Input) → next_line i ≡ None → i.ended ≡ false
still_open i none = go (first_line i.rest) i.ended none
  where
    go : (p : Option (List ℕ × List ℕ)) (b : Bool) → next_of p b i ≡ None → b ≡ false
    go (Some p) b e = absurd (cc e)
    go None true e = absurd (cc e)
    go None false e = refl

at-event : (bytes : List ℕ) (failed : Bool) (result : Result Unit Stop) (i j : Input) (d : Disk) (e : Event)
    → TookSome result i j (event.In bytes failed ∷ []) → e ≡ event.In bytes failed → Agrees d e × TookSome result i j (own (e ∷ []))
at-event bytes failed result i j d e took is =
    let P : Event → Type 0 = λ e. Agrees d e × TookSome result i j (own (e ∷ [])) in
    subst P (sym is) (tt, took)

pub filled-err : (i : Input) → next_line i ≡ None → (d : Disk) (e : Event) → e ≡ event.In [] true → Agrees d e × TookSome (Err stop.Input) i i (own (e ∷ []))
filled-err i none d e is = at-event [] true (Err stop.Input) i i d e ([], i, record { reads = refl; none = none }, refl) is

-- what follows if bytes were put after the unused ones
pub in-cause : (old new : Counts) (result : Result Unit Stop) (i j : Input) (bytes : List ℕ) → TookIn result i bytes j → Caused old new result
in-cause old new (Ok u) i j bytes t = tt
in-cause old new (Err stop.TooMuch) i j bytes t = tt
in-cause old new (Err stop.Memory) i j bytes t = tt
in-cause old new (Err stop.Input) i j bytes t = absurd t
in-cause old new (Err stop.Output) i j bytes t = absurd t
in-cause old new (Err stop.Disk) i j bytes t = absurd t

pub in-ok : {P : Type 0} (result : Result Unit Stop) (i j : Input) (bytes : List ℕ) → TookIn result i bytes j → (i.taken + length bytes ≤ input_limit → j ≡ took i bytes → P) → OnOk result P
in-ok (Ok u) i j bytes t p = p t.0 t.1
in-ok (Err cause) i j bytes t p = tt

pub in-more : (i j : Input) (bytes : List ℕ) → j ≡ took i bytes → (i.taken < j.taken) ⊎ (j.ended ≡ true)
in-more i j [] is = inr (ap (λ (k : Input). k.ended) is)
in-more i j (b ∷ bytes) is = let t = ap (λ (k : Input). k.taken) is in inl (omega arith)

pub in-left : (i j : Input) (bytes : List ℕ) → i.taken + length bytes ≤ input_limit → j ≡ took i bytes → left j ≡ left i
in-left i j bytes within is = ap left is ∙ omega (arith, length-append i.rest bytes)

pub filled : (result : Result Unit Stop) (i j : Input) (n : ℕ) (buf bytes : List ℕ) → next_line i ≡ None → n ≤ length buf → length buf ≤ buffer_size → bytes ≡ take n buf → TookIn result i bytes j
    → (d : Disk) (e : Event) → e ≡ event.In (take n buf) false → Agrees d e × TookSome result i j (own (e ∷ []))
filled result i j n buf bytes none le fits bytes_is taken_in d e is =
    at-event bytes false result i j d e (some result (let l = ap length bytes_is ∙ length-take-le n buf le in omega arith) taken_in) (is ∙ ap (λ (b : List ℕ). event.In b false) (sym bytes_is))
  where
    some : (r : Result Unit Stop) → length bytes ≤ buffer_size → TookIn r i bytes j → TookSome r i j (event.In bytes false ∷ [])
    some (Ok u) small t = (none, (small, t.0), sym t.1)
    some (Err stop.TooMuch) small t = ([], i, bytes, record { reads = refl; none = none }, (small, t.0), refl)
    some (Err stop.Memory) small t = (took i bytes, (none, (small, t.0), refl))
    some (Err stop.Input) small t = absurd t
    some (Err stop.Output) small t = absurd t
    some (Err stop.Disk) small t = absurd t

-- takings go on from one another
pub reads-more : (es fs : List Event) (i j k : Input) → Reads i es j → Reads j fs k → Reads i (es ++ fs) k
reads-more [] fs i j k x y = let R : Input → Type 0 = λ i. Reads i fs k in subst R (sym x) y
reads-more (event.In bytes false ∷ es) fs i j k x y = (x.0, x.1, reads-more es fs (took i bytes) j k x.2 y)
reads-more (e ∷ es) fs i j k x y = absurd x

-- a line after takings
pub line-taken : (i j k : Input) (line : Option (List ℕ)) (es : List Event) → next_line j ≡ Some (line, k) → Reads i es j → Goes (Ask (Line i) Ret) es (with_input (Ok line) k)
line-taken i j k line es is reads = inl ((line, k), es, [], sym (append-nil es), (j, reads, is), (refl, inl refl))

-- takings in front of takings
short-after : (i j m : Input) (es front : List Event) → Reads i es j → ReadsShort j m front → ReadsShort i m (es ++ front)
short-after i j m es front reads short = record { reads = reads-more es front i j m reads short.reads; none = short.none }

-- a cut after takings
pub line-cut : (i j k : Input) (cause : Stop) (es fs : List Event) → Reads i es j → Partly (Line j) cause fs
    → Goes (Ask (Line i) Ret) (es ++ fs) (with_input (Err cause) k)
line-cut i j k stop.Input es fs reads (front, m, short, is) =
    inr (
      stop.Input,
      refl,
      inr ((
        es ++ front,
        m,
        short-after i j m es front reads short,
        ap (λ r. es ++ r) is ∙ sym (append_assoc es front (event.In [] true ∷ [])),
      )),
    )
line-cut i j k stop.TooMuch es fs reads (front, m, bytes, short, large, is) =
    inr (
      stop.TooMuch,
      refl,
      inr ((
        es ++ front,
        m,
        bytes,
        short-after i j m es front reads short,
        large,
        ap (λ r. es ++ r) is ∙ sym (append_assoc es front (event.In bytes false ∷ [])),
      )),
    )
line-cut i j k stop.Memory es fs reads (m, more) = inr (stop.Memory, refl, inr ((m, reads-more es fs i j m reads more)))
line-cut i j k stop.Output es fs reads never = absurd never
line-cut i j k stop.Disk es fs reads never = absurd never

pub reads-on : (i j m k : Input) → m ≡ j → (es fs : List Event) → Reads i es j → Reads m fs k → Reads i (es ++ fs) k
reads-on i j m k same es fs x y = let R : Input → Type 0 = λ m. Reads m fs k in reads-more es fs i j k x (subst R same y)

pub line-cut-on : (i j m k : Input) (cause : Stop) → m ≡ j → (es fs : List Event) → Reads i es j → Partly (Line m) cause fs → Goes (Ask (Line i) Ret) (es ++ fs) (with_input (Err cause) k)
line-cut-on i j m k cause same es fs x y = let R : Input → Type 0 = λ m. Partly (Line m) cause fs in line-cut i j k cause es fs x (subst R same y)
