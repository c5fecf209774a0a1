-- A line of the input is fixed by the bytes that are still to come, however they are cut into events.
use Rattle.std.proofs.Common.{◌≡◌, ℕ, Bool, true, false, List, [], ◌∷◌, ◌++◌, refl, sym, ◌∙◌, ap, subst, append_assoc, append-nil}
use Rattle.std.specs.Prelude.{◌==◌, if◌then◌else◌}
use Rattle.std.specs.declared.option.Option.{Option}
use Rattle.std.specs.declared.option.Option.TheVariants.{Some, None}
use Rattle.host_port.specs.declared.event.Event.{Event}
use Rattle.host_port.specs.declared.event.Event.TheVariants as event
use Rattle.host_port.specs.Disk.{Disk, disk}
use Rattle.session_play.specs.Input.{Input, onto_first, first_line, last_line, next_of, next_line, took, Reads}
use Rattle.play_likeness.specs.Outside.{Outside, Gives, said}

-- the first line of a text that is all there is, and what follows it
abbrev cut_of : Option (List ℕ × List ℕ) → List ℕ → Option (List ℕ) × List ℕ
cut_of (Some p) t = (Some p.0, p.1)
cut_of None [] = (None, [])
cut_of None (b ∷ bs) = (Some (b ∷ bs), [])

abbrev pub line_of : List ℕ → Option (List ℕ) × List ℕ
line_of t = cut_of (first_line t) t

some-same : {A : Type 0} (a b : A) → Some a ≡ Some b → a ≡ b
some-same a b e = cc

none-some : {A : Type 0} (a : A) → None ≡ Some a → ⊥
none-some a e = cc

-- a line that is there stays there
first-more : (xs ys : List ℕ) (p : List ℕ × List ℕ) → first_line xs ≡ Some p → first_line (xs ++ ys) ≡ Some (p.0, p.1 ++ ys)
first-more [] ys p is = absurd (none-some p is)
first-more (x ∷ xs) ys p is = at (x == 10) (λ q was. first-more xs ys q was) is
  where
    onto : (o : Option (List ℕ × List ℕ)) → ((q : List ℕ × List ℕ) → o ≡ Some q → first_line (xs ++ ys) ≡ Some (q.0, q.1 ++ ys)) → onto_first x o ≡ Some p
        → onto_first x (first_line (xs ++ ys)) ≡ Some (p.0, p.1 ++ ys)
    onto None more e = absurd (none-some p e)
    onto (Some q) more e =
        let same : (x ∷ q.0, q.1) ≡ p = some-same _ p e in
        ap (onto_first x) (more q refl) ∙ ap (λ (r : List ℕ × List ℕ). Some (r.0, r.1 ++ ys)) same

    at : (b : Bool) → ((q : List ℕ × List ℕ) → first_line xs ≡ Some q → first_line (xs ++ ys) ≡ Some (q.0, q.1 ++ ys)) → (if b then Some ([], xs) else onto_first x (first_line xs)) ≡ Some p
        → (if b then Some ([], xs ++ ys) else onto_first x (first_line (xs ++ ys))) ≡ Some (p.0, p.1 ++ ys)
    at true more e = let same : ([], xs) ≡ p = some-same _ p e in ap (λ (r : List ℕ × List ℕ). Some (r.0, r.1 ++ ys)) same
    at false more e = onto (first_line xs) more e

-- what is taken leaves the bytes that are to come as they are
pub record Takes (i : Input) (o : Outside) (k : Input) (p : Outside) : Type 0 where
  pub text : i.rest ++ o.text ≡ k.rest ++ p.text
  pub children : o.children ≡ p.children
  pub edits : o.edits ≡ p.edits
  pub times : o.times ≡ p.times
  pub end : k.ended ≡ true → p.text ≡ []

takes-none : (i k : Input) (o p : Outside) → i ≡ k → o ≡ p → (i.ended ≡ true → o.text ≡ []) → Takes i o k p
takes-none i k o p same is end =
    subst (λ (k : Input). Takes i o k p) same (subst (Takes i o i) is (record { text = refl; children = refl; edits = refl; times = refl; end = end }))

pub reads-take : (es : List Event) (i k : Input) (o p : Outside) → Reads i es k → Gives o es p → (i.ended ≡ true → o.text ≡ []) → Takes i o k p
reads-take [] i k o p same is end = takes-none i k o p same is end
reads-take (event.In bytes false ∷ es) i k o p (none, may, more) (rest, is, last, gives) end =
    let t = reads-take es (took i bytes) k (record o { text = rest }) p more gives last in
    record {
      text = ap (λ (r : List ℕ). i.rest ++ r) is ∙ sym (append_assoc i.rest bytes rest) ∙ t.text;
      children = t.children;
      edits = t.edits;
      times = t.times;
      end = t.end;
    }
reads-take (e ∷ es) i k o p never gives end = absurd never

-- the line that can be handed out then is the first of all that is to come
record Hands (k : Input) (p : Outside) (a : Option (List ℕ) × Input) : Type 0 where
  line : line_of (k.rest ++ p.text) ≡ (a.0, a.1.rest ++ p.text)
  end : a.1.ended ≡ true → p.text ≡ []

hands : (k : Input) (p : Outside) (a : Option (List ℕ) × Input) → next_line k ≡ Some a → (k.ended ≡ true → p.text ≡ []) → Hands k p a
hands k p a next end = go (first_line k.rest) k.ended refl refl next
  where
    made : (b : Option (List ℕ) × Input) → Some b ≡ Some a → Hands k p b → Hands k p a
    made b e h = subst (Hands k p) (some-same b a e) h

    tail : (r : List ℕ) → k.rest ≡ r → first_line r ≡ None → p.text ≡ [] → Some (last_line r k) ≡ Some a → Hands k p a
    tail [] was none over e = made (None, k) e (record {
      line = ap line_of (ap (λ (r : List ℕ). r ++ p.text) was ∙ over) ∙ (λ i. (None, sym (ap (λ (r : List ℕ). r ++ p.text) was ∙ over) i));
      end = λ ended. over;
    })
    tail (b ∷ r) was none over e = made (last_line (b ∷ r) k) e (record {
      line = ap line_of (ap (λ (r : List ℕ). r ++ p.text) was ∙ ap (λ (t : List ℕ). (b ∷ r) ++ t) over ∙ append-nil (b ∷ r))
          ∙ ap (λ (o : Option (List ℕ × List ℕ)). cut_of o (b ∷ r)) none ∙ (λ i. (Some (b ∷ r), sym over i));
      end = λ ended. over;
    })

    go : (o : Option (List ℕ × List ℕ)) (b : Bool) → first_line k.rest ≡ o → k.ended ≡ b → next_of o b k ≡ Some a → Hands k p a
    go (Some q) b was ended e = made (Some q.0, record { rest = q.1; ended = b; taken = k.taken }) e (record {
      line = ap (λ (o : Option (List ℕ × List ℕ)). cut_of o (k.rest ++ p.text)) (first-more k.rest p.text q was);
      end = λ over. end (ended ∙ over);
    })
    go None true was ended e = tail k.rest refl was (end ended) e
    go None false was ended e = absurd (none-some a e)

-- a line that is taken
pub record TakesLine (i : Input) (o : Outside) (a : Option (List ℕ) × Input) (p : Outside) : Type 0 where
  pub line : line_of (i.rest ++ o.text) ≡ (a.0, a.1.rest ++ p.text)
  pub children : o.children ≡ p.children
  pub edits : o.edits ≡ p.edits
  pub times : o.times ≡ p.times
  pub end : a.1.ended ≡ true → p.text ≡ []

pub line-taken : (es : List Event) (i k : Input) (o p : Outside) (a : Option (List ℕ) × Input) → Reads i es k → next_line k ≡ Some a → Gives o es p → (i.ended ≡ true → o.text ≡ []) → TakesLine i o a p
line-taken es i k o p a reads next gives end =
    let t = reads-take es i k o p reads gives end in
    let h = hands k p a next t.end in
    record { line = ap line_of t.text ∙ h.line; children = t.children; edits = t.edits; times = t.times; end = h.end }

-- nothing is said, and the disk stays
pub reads-said : (es : List Event) (i k : Input) → Reads i es k → said es ≡ []
reads-said [] i k reads = refl
reads-said (event.In bytes false ∷ es) i k (none, may, more) = reads-said es (took i bytes) k more
reads-said (e ∷ es) i k never = absurd never

pub reads-disk : (es : List Event) (i k : Input) (d : Disk) → Reads i es k → disk d es ≡ d
reads-disk [] i k d reads = refl
reads-disk (event.In bytes false ∷ es) i k d (none, may, more) = reads-disk es (took i bytes) k d more
reads-disk (e ∷ es) i k d never = absurd never
