-- The lines that a delivery takes are those of its input.
use Rattle.std.proofs.Common.{◌≡◌, ◌||◌, ◌==◌, ℕ, Bool, true, false, List, [], ◌∷◌, ◌++◌, refl, sym, ap, ◌∙◌, subst, inl, inr, arith, if◌then◌else◌, append_assoc, append-nil}
use Rattle.std.specs.Prelude.{not, ◌&&◌}
use Rattle.std.specs.declared.option.Option.{Option}
use Rattle.std.specs.declared.option.Option.TheVariants.{Some, None}
use Rattle.host_port.specs.declared.event.Event.{Event}
use Rattle.host_port.specs.declared.event.Event.TheVariants as event
use Rattle.mail_text.specs.Lines.{lines_of, in_front}
use Rattle.mail_text.proofs.LineLemmas.{lines_of-nil, lines_of-feed, lines_of-byte}
use Rattle.mail_dates.specs.declared.moment.Moment.{Moment}
use Rattle.commit_machine.specs.Settled.{Mem}
use Rattle.session_play.specs.Causes.{bytes_in}
use Rattle.session_play.specs.Input.{Input, is_empty, onto_first, first_line, last_line, next_of, next_line, took, Reads}
use Rattle.session_play.specs.Play.{Line, Did}
use Rattle.session_play.proofs.InputLemmas.{still_open}
use Rattle.mail_delivery.specs.declared.environment.Environment.{Environment}
use Rattle.mail_delivery.specs.Meaning.{Taken, taken, nothing_taken}
use Rattle.mail_delivery.specs.Source.{IsToldIn, input_in, saw_end}

some-same : {A : Type 0} (a b : A) → Some a ≡ Some b → a ≡ b
some-same a b e = cc

none-some : {A : Type 0} (a : A) → None ≡ Some a → ⊥
none-some a e = cc

-- ---- events in two parts
input-append : (es fs : List Event) → input_in (es ++ fs) ≡ input_in es ++ input_in fs
input-append [] fs = refl
input-append (event.In bytes failed ∷ es) fs = ap (λ (r : List ℕ). bytes ++ r) (input-append es fs) ∙ sym (append_assoc bytes (input_in es) (input_in fs))
input-append (e ∷ es) fs = input-append es fs

or-assoc : (a b c : Bool) → (a || (b || c)) ≡ ((a || b) || c)
or-assoc true b c = refl
or-assoc false b c = refl

end-append : (es fs : List Event) → saw_end (es ++ fs) ≡ (saw_end es || saw_end fs)
end-append [] fs = refl
end-append (event.In bytes failed ∷ es) fs =
    let here : Bool = is_empty bytes && not failed in
    ap (λ (b : Bool). here || b) (end-append es fs) ∙ or-assoc here (saw_end es) (saw_end fs)
end-append (e ∷ es) fs = end-append es fs

end-front : (es fs : List Event) → saw_end es ≡ true → saw_end (es ++ fs) ≡ true
end-front es fs h = end-append es fs ∙ ap (λ (b : Bool). b || saw_end fs) h

mem-front : (e : Event) (es fs : List Event) → Mem e es → Mem e (es ++ fs)
mem-front e [] fs h = absurd h
mem-front e (f ∷ es) fs (inl is) = inl is
mem-front e (f ∷ es) fs (inr h) = inr (mem-front e es fs h)

pub mem-back : (e : Event) (es fs : List Event) → Mem e fs → Mem e (es ++ fs)
mem-back e [] fs h = h
mem-back e (f ∷ es) fs h = inr (mem-back e es fs h)

-- no bytes were taken
pub none-in : (es : List Event) → bytes_in es ≡ 0 → input_in es ≡ []
none-in [] none = refl
none-in (event.In [] failed ∷ es) none = let later : bytes_in es ≡ 0 = omega (arith, none) in none-in es later
none-in (event.In (b ∷ bytes) failed ∷ es) none = absurd (omega (arith, none))
none-in (e ∷ es) none = none-in es none

-- ---- the first line of a text
abbrev lines_at : List ℕ → List ℕ × List ℕ → List (List ℕ)
lines_at more p = p.0 ∷ lines_of (p.1 ++ more)

first-of : (r more : List ℕ) (p : List ℕ × List ℕ) → first_line r ≡ Some p → lines_of (r ++ more) ≡ lines_at more p
first-of [] more p is = absurd (none-some p is)
first-of (b ∷ bs) more p is = go (λ q was. first-of bs more q was) (b == 10) refl is
  where
    onto : (o : Option (List ℕ × List ℕ)) → ((q : List ℕ × List ℕ) → o ≡ Some q → lines_of (bs ++ more) ≡ lines_at more q) → onto_first b o ≡ Some p
        → in_front b (lines_of (bs ++ more)) ≡ lines_at more p
    onto None ih e = absurd (none-some p e)
    onto (Some q) ih e = ap (in_front b) (ih q refl) ∙ ap (lines_at more) (some-same (b ∷ q.0, q.1) p e)

    go : ((q : List ℕ × List ℕ) → first_line bs ≡ Some q → lines_of (bs ++ more) ≡ lines_at more q) → (t : Bool) → (b == 10) ≡ t
        → (if t then Some ([], bs) else onto_first b (first_line bs)) ≡ Some p → lines_of (b ∷ (bs ++ more)) ≡ lines_at more p
    go ih true at e = lines_of-feed b (bs ++ more) at ∙ ap (lines_at more) (some-same ([], bs) p e)
    go ih false at e = lines_of-byte b (bs ++ more) at ∙ onto (first_line bs) ih e

none-onto : (b : ℕ) (o : Option (List ℕ × List ℕ)) → onto_first b o ≡ None → o ≡ None
none-onto b None e = refl
none-onto b (Some q) e = absurd (none-some _ (sym e))

-- a text with bytes and no line feed is its only line
last-front : (b : ℕ) (bs : List ℕ) → first_line bs ≡ None → in_front b (lines_of bs) ≡ (b ∷ bs) ∷ []
last-front b [] none = ap (in_front b) lines_of-nil
last-front b (c ∷ cs) none = go (λ later. last-front c cs later) (c == 10) refl none
  where
    go : (first_line cs ≡ None → in_front c (lines_of cs) ≡ (c ∷ cs) ∷ []) → (t : Bool) → (c == 10) ≡ t
        → (if t then Some ([], cs) else onto_first c (first_line cs)) ≡ None → in_front b (lines_of (c ∷ cs)) ≡ (b ∷ c ∷ cs) ∷ []
    go ih true at e = absurd (none-some _ (sym e))
    go ih false at e = ap (in_front b) (lines_of-byte c cs at ∙ ih (none-onto c (first_line cs) e))

last-of : (b : ℕ) (bs : List ℕ) → first_line (b ∷ bs) ≡ None → lines_of (b ∷ bs) ≡ (b ∷ bs) ∷ []
last-of b bs none = go (b == 10) refl none
  where
    go : (t : Bool) → (b == 10) ≡ t → (if t then Some ([], bs) else onto_first b (first_line bs)) ≡ None → lines_of (b ∷ bs) ≡ (b ∷ bs) ∷ []
    go true at e = absurd (none-some _ (sym e))
    go false at e = lines_of-byte b bs at ∙ last-front b bs (none-onto b (first_line bs) e)

-- ---- lines that were taken
-- The lines that these events took, and those of what is left and may come, are those of all that was taken and may come. Nothing comes after the end.
pub record TookLines (es : List Event) (t : Taken) : Type 0 where
  pub lines : (more : List ℕ) → (t.input.ended ≡ true → more ≡ []) → lines_of (input_in es ++ more) ≡ t.lines ++ lines_of (t.input.rest ++ more)
  pub ended : t.input.ended ≡ true → saw_end es ≡ true

pub took-none : TookLines [] nothing_taken
took-none = record { lines = λ more over. refl; ended = λ h. absurd (cc h) }

one-more : (es : List Event) (bytes : List ℕ) (i : Input) (lines : List (List ℕ)) → next_line i ≡ None → TookLines es (taken i lines)
    → TookLines (es ++ event.In bytes false ∷ []) (taken (took i bytes) lines)
one-more es bytes i lines none t = record {
  lines = λ more over.
      let open_yet = still_open i none in
      let whole : input_in (es ++ event.In bytes false ∷ []) ++ more ≡ input_in es ++ (bytes ++ more) =
      ap (λ (r : List ℕ). r ++ more) (input-append es (event.In bytes false ∷ []) ∙ ap (λ (r : List ℕ). input_in es ++ r) (append-nil bytes)) ∙ append_assoc (input_in es) bytes more in
      ap lines_of whole
      ∙ t.lines (bytes ++ more) (λ over. absurd (cc (open_yet, over)))
      ∙ ap (λ (r : List ℕ). lines ++ lines_of r) (sym (append_assoc i.rest bytes more));
  ended = λ h.
      end-append es (event.In bytes false ∷ []) ∙ ap (λ (b : Bool). saw_end es || ((b && true) || false)) h ∙ or-true (saw_end es);
}
  where
    or-true : (b : Bool) → (b || true) ≡ true
    or-true true = refl
    or-true false = refl

reads-more : (es fs : List Event) (i j : Input) (lines : List (List ℕ)) → TookLines es (taken i lines) → Reads i fs j → TookLines (es ++ fs) (taken j lines)
reads-more es [] i j lines t same =
    subst (λ (l : List Event). TookLines l (taken j lines)) (sym (append-nil es)) (subst (λ (k : Input). TookLines es (taken k lines)) same t)
reads-more es (event.In bytes false ∷ fs) i j lines t (none, may, more) =
    subst (λ (l : List Event). TookLines l (taken j lines)) (append_assoc es (event.In bytes false ∷ []) fs)
    (reads-more (es ++ event.In bytes false ∷ []) fs (took i bytes) j lines (one-more es bytes i lines none t) more)
reads-more es (e ∷ fs) i j lines t never = absurd never

-- one more line, or the end
pub record TookAll (es : List Event) (lines : List (List ℕ)) : Type 0 where
  pub lines_are : lines_of (input_in es) ≡ lines
  pub ended : saw_end es ≡ true

abbrev pub TookOne : List Event → List (List ℕ) → Option (List ℕ) → Input → Type 0
TookOne es lines (Some line) k = TookLines es (taken k (lines ++ line ∷ []))
TookOne es lines None k = TookAll es lines

one-handed : (es : List Event) (j : Input) (a : Option (List ℕ) × Input) (lines : List (List ℕ)) → TookLines es (taken j lines) → next_line j ≡ Some a → TookOne es lines a.0 a.1
one-handed es j a lines t next = go (first_line j.rest) j.ended refl refl next
  where
    made : (b : Option (List ℕ) × Input) → Some b ≡ Some a → TookOne es lines b.0 b.1 → TookOne es lines a.0 a.1
    made b e h = subst (λ (c : Option (List ℕ) × Input). TookOne es lines c.0 c.1) (some-same b a e) h

    -- all lines, if the rest is what was taken last
    at-end : (r : List ℕ) → j.rest ≡ r → lines_of (input_in es ++ []) ≡ lines ++ lines_of r
    at-end r is = t.lines [] (λ h. refl) ∙ ap (λ (l : List ℕ). lines ++ lines_of l) (append-nil j.rest ∙ is)

    tail : (r : List ℕ) → j.rest ≡ r → j.ended ≡ true → first_line r ≡ None → Some (last_line r j) ≡ Some a → TookOne es lines a.0 a.1
    tail [] is over none e = made (None, j) e (record {
      lines_are = ap lines_of (sym (append-nil (input_in es))) ∙ at-end [] is ∙ ap (λ (ls : List (List ℕ)). lines ++ ls) lines_of-nil ∙ append-nil lines;
      ended = t.ended over;
    })
    tail (b ∷ r) is over none e =
        let line : List ℕ = b ∷ r in
        let more_lines : List (List ℕ) = lines ++ line ∷ [] in
        let whole : lines_of (input_in es ++ []) ≡ more_lines ++ lines_of [] =
        at-end line is ∙ ap (λ (ls : List (List ℕ)). lines ++ ls) (last-of b r none) ∙ sym (ap (λ (ls : List (List ℕ)). more_lines ++ ls) lines_of-nil ∙ append-nil more_lines) in
        made (Some line, record { rest = []; ended = true; taken = j.taken }) e (record {
          lines = λ more none_more. subst (λ (m : List ℕ). lines_of (input_in es ++ m) ≡ more_lines ++ lines_of m) (sym (none_more refl)) whole;
          ended = λ h. t.ended over;
        })

    go : (o : Option (List ℕ × List ℕ)) (b : Bool) → first_line j.rest ≡ o → j.ended ≡ b → next_of o b j ≡ Some a → TookOne es lines a.0 a.1
    go (Some p) b was ended e = made (Some p.0, record { rest = p.1; ended = b; taken = j.taken }) e (record {
      lines = λ more over.
          t.lines more (λ h. over (sym ended ∙ h))
          ∙ ap (λ (ls : List (List ℕ)). lines ++ ls) (first-of j.rest more p was)
          ∙ sym (append_assoc lines (p.0 ∷ []) (lines_of (p.1 ++ more)));
      ended = λ h. t.ended (ended ∙ h);
    })
    go None true was ended e = tail j.rest refl ended was e
    go None false was ended e = absurd (none-some a e)

pub line-took : (es fs : List Event) (t : Taken) (a : Option (List ℕ) × Input) → TookLines es t → Did (Line t.input) a fs → TookOne (es ++ fs) t.lines a.0 a.1
line-took es fs t a so (j, reads, next) = one-handed (es ++ fs) j a t.lines (reads-more es fs t.input j t.lines so reads) next

-- ---- a message is made of all lines, and of a moment
pub record IsSource (env : Environment) (es : List Event) (lines : List (List ℕ)) (m : Moment) : Type 0 where
  pub all : TookAll es lines
  pub told : IsToldIn env es m

-- events that take no input may follow
none-more : (es fs : List Event) → input_in fs ≡ [] → input_in (es ++ fs) ≡ input_in es
none-more es fs none = input-append es fs ∙ ap (λ (r : List ℕ). input_in es ++ r) none ∙ append-nil (input_in es)

pub all-more : (es fs : List Event) (lines : List (List ℕ)) → input_in fs ≡ [] → TookAll es lines → TookAll (es ++ fs) lines
all-more es fs lines none all = record { lines_are = ap lines_of (none-more es fs none) ∙ all.lines_are; ended = end-front es fs all.ended }

pub source-more : (env : Environment) (es fs : List Event) (lines : List (List ℕ)) (m : Moment) → input_in fs ≡ [] → IsSource env es lines m → IsSource env (es ++ fs) lines m
source-more env es fs lines m none s = record {
  all = all-more es fs lines none s.all;
  told = record { seconds = s.told.seconds; told = mem-front (event.Now s.told.seconds) es fs s.told.told; moment = s.told.moment };
}
