-- A step's call is the machine's next.
use Rattle.std.proofs.Common.{◌≡◌, ℕ, zero, suc, ◌+◌, ◌<◌, ◌≤◌, List, [], ◌∷◌, Option, Some, length, map, take, drop, get_or, subst, refl, ap, sym, ◌∙◌, arith}
use Rattle.std.specs.Option.{option_map}
use Rattle.folder_change.specs.Outcomes.{bytes_of}
use Rattle.commit_record.specs.declared.record.Entry.{Entry}
use Rattle.commit_record.specs.declared.record.Record.{Record}
use Rattle.commit_record.specs.Ways.{way_of}
use Rattle.commit_record.specs.declared.way.Way.{Way}
use Rattle.commit_record.specs.declared.way.Way.TheVariants.{Replace}
use Rattle.commit_machine.specs.Names.{record_name, new_name, staged_name}
use Rattle.commit_machine.specs.Records.{names_of, AreDistinct}
use Rattle.commit_machine.specs.Jobs.{Ending, Edit, Job, Made, edits_of, all_of, made_at, way_made}
use Rattle.commit_machine.specs.Machine.{State, stay, next, locking, loading, staging}
use Rattle.commit_machine.specs.Items.{Item, content_made, made_item, found_items, made_items}
use Rattle.commit_machine.specs.Machine as machine
use Rattle.commit_driver.specs.declared.step.End.{End}
use Rattle.commit_driver.specs.declared.step.End.TheVariants as end
use Rattle.commit_driver.specs.declared.step.Then.{Then}
use Rattle.commit_driver.specs.declared.step.Then.TheVariants.{GoOn, Answer}
use Rattle.commit_driver.specs.declared.step.Step.{Step}
use Rattle.commit_driver.specs.declared.step.Step.TheVariants.{Looking, Undoing, Placing, Testing, Removing, Extending, Discarding, Unlocking, Erasing, Clearing, Preparing, Publishing, Locking, Loading, Staging, Deciding, Committing, Checking, Releasing, Ended}
use Rattle.commit_driver.specs.declared.place.Plan.{Plan}
use Rattle.commit_driver.specs.declared.place.Place.{Place}
use Rattle.commit_driver.specs.Steps.{call_at, count_at, staged_at, file_at, Fits}
use Rattle.commit_driver.specs.Places.{nth, name_in, content_at, PlacesSo, call_in, files_of, entries_of, made_from, own_record, record_as, names_as, items_as, nth_item, item_seen, state_as, IsMade, Holds, IsPlan, IsPlace, NextOf}
use Rattle.commit_driver.proofs.StateLemmas.{drop-some, nth-drop, nth-map, length-map, unlocking-view, undoing-view}
use Rattle.commit_driver.proofs.WayLemmas.{name-found, name-made, way-found, item-made, get-map, made-found}

pub nth-of : (f : List ℕ → List ℕ) (xs : List (List ℕ)) (at : ℕ) → at < length xs → nth (map f xs) at ≡ f (nth xs at)
nth-of f xs at l = let w = drop-some xs at l in nth-map f xs at w.0 (drop (at + 1) xs) w.1 ∙ ap f (sym (nth-drop xs at w.0 (drop (at + 1) xs) w.1))

content-nth : (files : List (Option (List ℕ))) (at : ℕ) → content_at files at ≡ nth (map bytes_of files) at
content-nth [] at = refl
content-nth (f ∷ fs) zero = refl
content-nth (f ∷ fs) (suc at) = content-nth fs at

own-token : (j : Job) (made : List Made) (e : End) → (own_record j made e).token ≡ j.token
own-token j made end.Done = refl
own-token j made e = refl

pub names-long : (r : Record) → length (names_of r) ≡ length r.entries
names-long r = length-map (λ (e : Entry). e.name) r.entries

pub files-long : (j : Job) (plan : Plan) → IsPlan j plan → files_of plan ≡ length (all_of j)
files-long j plan p = sym (names-long plan.value) ∙ ap length p.names_are

pub edits-long : (j : Job) (plan : Plan) → IsPlan j plan → files_of plan ≡ length (edits_of j)
edits-long j plan p = files-long j plan p ∙ length-map (λ (e : Edit). e.name) (edits_of j)

pub made-long : (j : Job) (plan : Plan) (made : List Made) (files : List (Option (List ℕ))) (ways : List Way) (go : List ℕ) → IsPlan j plan → IsMade j made files ways go → files_of plan ≡ length made
made-long j plan made files ways go p m = files-long j plan p ∙ ap length (sym m.names_are) ∙ length-map (λ (x : Made). x.edit.name) made

module _ (j : Job) (plan : Plan) (place : Place) (hidden : Ending) (made : List Made) (p : IsPlan j plan) (q : IsPlace plan place) where
  abbrev found : Record
  found = place.found

  abbrev at_state : Step → State
  at_state s = state_as j hidden made found place.seen place.files s

  abbrev Same : Step → Type 0
  Same s = option_map (call_in plan place) (call_at s) ≡ next j (at_state s)

  pub names-count : (th : Then) → count_at (files_of plan) (entries_of place) th ≡ length (names_as j found th)
  names-count GoOn = sym (names-long found)
  names-count (Answer e) = files-long j plan p

  staged-is : (th : Then) (at : ℕ) → at < length (names_as j found th) → name_in plan place (staged_at th at) ≡ staged_name (record_as j made found th).token (nth (names_as j found th) at)
  staged-is GoOn at l = ap (λ (ns : List (List ℕ)). nth ns at) q.staged_are ∙ nth-of (staged_name found.token) (names_of found) at l
  staged-is (Answer e) at l =
      ap (λ (ns : List (List ℕ)). nth ns at) p.staged_are ∙ nth-of (staged_name j.token) (all_of j) at l ∙ ap (λ (t : ℕ). staged_name t (nth (all_of j) at)) (sym (own-token j made e))

  file-is : (th : Then) (at : ℕ) → name_in plan place (file_at th at) ≡ nth (names_as j found th) at
  file-is GoOn at = refl
  file-is (Answer e) at = ap (λ (ns : List (List ℕ)). nth ns at) p.names_are

  -- the name of what is put in place
  item-name : (th : Then) (at : ℕ) → (nth_item (items_as j made found th) at).name ≡ nth (names_as j found th) at
  item-name GoOn at = name-found found.entries at
  item-name (Answer e) at = name-made made (all_of j) at

  seen-name : (th : Then) (at : ℕ) → (item_seen th place.seen (nth_item (items_as j made found th) at)).name ≡ nth (names_as j found th) at
  seen-name GoOn at = item-name GoOn at
  seen-name (Answer e) at = item-name (Answer e) at

  own-file : (at : ℕ) → nth (names_of plan.value) at ≡ nth (all_of j) at
  own-file at = ap (λ (ns : List (List ℕ)). nth ns at) p.names_are

  next-undoing : (at end locks : ℕ) (th : Then) → at < end → end ≤ length (names_as j found th) → Same (Undoing at end locks th)
  next-undoing at end locks th l m = ap (λ (n : List ℕ). Some (machine.ToErase n)) (staged-is th at (omega (arith, l, m)))
      ∙ sym (ap (next j) (undoing-view j hidden made found place.seen place.files at end locks th l m))

  next-placing : (at : ℕ) (th : Then) → at < length (names_as j found th) → Same (Placing at th)
  next-placing at th l =
      ap (λ (n : List ℕ). Some (machine.ToPublish n (name_in plan place (file_at th at)))) (staged-is th at l)
      ∙ ap (λ (n : List ℕ). Some (machine.ToPublish (staged_name (record_as j made found th).token (nth (names_as j found th) at)) n)) (file-is th at)
      ∙ sym (ap (λ (n : List ℕ). Some (machine.ToPublish (staged_name (record_as j made found th).token n) n)) (item-name th at))

  next-testing : (at : ℕ) → at < length (names_of found) → Same (Testing at)
  next-testing at l = ap (λ (n : List ℕ). Some (machine.ToLoad n)) (staged-is GoOn at l) ∙ sym (ap (λ (n : List ℕ). Some (machine.ToLoad (staged_name found.token n))) (item-name GoOn at))

  next-removing : (at : ℕ) (th : Then) → Same (Removing at th)
  next-removing at th = ap (λ (n : List ℕ). Some (machine.ToErase n)) (file-is th at ∙ sym (seen-name th at))

  next-discarding : (at : ℕ) (th : Then) → at < length (names_as j found th) → Same (Discarding at th)
  next-discarding at th l = ap (λ (n : List ℕ). Some (machine.ToErase n)) (staged-is th at l ∙ sym (ap (staged_name (record_as j made found th).token) (seen-name th at)))

  next-unlocking : (at end : ℕ) (th : Then) → at < end → end ≤ length (names_as j found th) → Same (Unlocking at end th)
  next-unlocking at end GoOn l m = sym (ap (next j) (unlocking-view j hidden made found place.seen place.files at end GoOn l m))
  next-unlocking at end (Answer e) l m =
      ap (λ (n : List ℕ). Some (machine.ToUnlock n plan.value.token)) (own-file at)
      ∙ ap (λ (t : ℕ). Some (machine.ToUnlock (nth (all_of j) at) t)) (p.token_is (omega (arith, l, m, files-long j plan p)) ∙ sym (own-token j made e))
      ∙ sym (ap (next j) (unlocking-view j hidden made found place.seen place.files at end (Answer e) l m))

  next-locking : (at : ℕ) → at < files_of plan → Same (Locking at)
  next-locking at l =
      let w = drop-some (edits_of j) at (omega (arith, l, edits-long j plan p)) in
      ap (λ (n : List ℕ). Some (machine.ToLock n plan.value.token)) (own-file at ∙ nth-map (λ (e : Edit). e.name) (edits_of j) at w.0 (drop (at + 1) (edits_of j)) w.1)
      ∙ ap (λ (t : ℕ). Some (machine.ToLock w.0.name t)) (p.token_is (omega (arith, l)))
      ∙ sym (ap (λ (es : List Edit). next j (locking j (take at (all_of j)) es)) w.1)

  next-loading : (at : ℕ) → at < files_of plan → Same (Loading at)
  next-loading at l =
      let w = drop-some (edits_of j) at (omega (arith, l, edits-long j plan p)) in
      ap (λ (n : List ℕ). Some (machine.ToLoad n)) (own-file at ∙ nth-map (λ (e : Edit). e.name) (edits_of j) at w.0 (drop (at + 1) (edits_of j)) w.1)
      ∙ sym (ap (λ (es : List Edit). next j (loading j (made_from (edits_of j) (take at place.files)) es)) w.1)

  -- one of what was made is put in place as it was made
  own-item : (at : ℕ) → at < files_of plan → (m : IsMade j made place.files place.ways place.go)
      → (w : Made) × (nth_item (made_items j made) at ≡ record { name = w.edit.name; way = w.way; staged = Some w.content })
      × (nth (all_of j) at ≡ w.edit.name) × (get_or place.ways at Replace ≡ w.way) × (content_at place.files at ≡ w.content)
  own-item at l m =
      let w = drop-some made at (omega (arith, l, made-long j plan made place.files place.ways place.go p m)) in
      let rest = drop (at + 1) made in
      let name : nth (all_of j) at ≡ w.0.edit.name = ap (λ (ns : List (List ℕ)). nth ns at) (sym m.names_are) ∙ nth-map (λ (x : Made). x.edit.name) made at w.0 rest w.1 in
      let found : made_at made (nth (all_of j) at) ≡ Some w.0 = ap (made_at made) name ∙ made-found made at w.0 rest (subst AreDistinct (sym m.names_are) m.distinct) w.1 in
      let item : nth_item (made_items j made) at ≡ made_item made (nth (all_of j) at) = item-made made (all_of j) at (omega (arith, l, files-long j plan p)) in
      let so : made_item made (nth (all_of j) at) ≡ record { name = nth (all_of j) at; way = w.0.way; staged = Some w.0.content } =
      ap (λ (o : Option Made). (let x : Item = record { name = nth (all_of j) at; way = way_made o; staged = content_made o } in x)) found in (
        w.0,
        item ∙ so ∙ ap (λ (n : List ℕ). (let x : Item = record { name = n; way = w.0.way; staged = Some w.0.content } in x)) name,
        name,
        ap (λ (ws : List Way). get_or ws at Replace) m.ways_are ∙ get-map (λ (x : Made). x.way) Replace made at w.0 rest w.1,
        content-nth place.files at ∙ ap (λ (ns : List (List ℕ)). nth ns at) m.contents_are ∙ nth-map (λ (x : Made). x.content) made at w.0 rest w.1,
      )

  next-extending : (at : ℕ) (th : Then) → at < count_at (files_of plan) (entries_of place) th → PlacesSo j made place.files place.ways place.go th → Same (Extending at th)
  next-extending at GoOn l h =
      ap (λ (n : List ℕ). Some (machine.ToExtend n (stay (get_or (map way_of found.entries) at Replace)) (bytes_of place.seen))) (sym (item-name GoOn at))
      ∙ ap (λ (w : Way). Some (machine.ToExtend (nth_item (found_items found) at).name (stay w) (bytes_of place.seen))) (way-found found.entries at)
  next-extending at (Answer end.Done) l m =
      let w = own-item at l m in
      ap (λ (n : List ℕ). Some (machine.ToExtend n (stay (get_or place.ways at Replace)) (content_at place.files at))) (own-file at ∙ w.2)
      ∙ ap (λ (v : Way). Some (machine.ToExtend w.0.edit.name (stay v) (content_at place.files at))) w.3
      ∙ ap (λ (b : List ℕ). Some (machine.ToExtend w.0.edit.name (stay w.0.way) b)) w.4
      ∙ sym (ap (λ (x : Item). Some (machine.ToExtend x.name (stay x.way) (bytes_of x.staged))) w.1)
  next-extending at (Answer e) l h = absurd h

  next-staging : (at : ℕ) → at < files_of plan → IsMade j made place.files place.ways place.go → Same (Staging at)
  next-staging at l m =
      let w = drop-some made at (omega (arith, l, made-long j plan made place.files place.ways place.go p m)) in
      let name : nth plan.staged at ≡ staged_name j.token w.0.edit.name =
      ap (λ (ns : List (List ℕ)). nth ns at) p.staged_are
      ∙ nth-of (staged_name j.token) (all_of j) at (omega (arith, l, files-long j plan p))
      ∙ ap (staged_name j.token) (ap (λ (ns : List (List ℕ)). nth ns at) (sym m.names_are) ∙ nth-map (λ (x : Made). x.edit.name) made at w.0 (drop (at + 1) made) w.1)
      in
      let content : content_at place.files at ≡ w.0.content =
      content-nth place.files at ∙ ap (λ (ns : List (List ℕ)). nth ns at) m.contents_are ∙ nth-map (λ (x : Made). x.content) made at w.0 (drop (at + 1) made) w.1
      in
      ap (λ (n : List ℕ). Some (machine.ToStage n (content_at place.files at))) name
      ∙ ap (λ (b : List ℕ). Some (machine.ToStage (staged_name j.token w.0.edit.name) b)) content
      ∙ sym (ap (λ (ms : List Made). next j (staging (take at (all_of j)) made ms)) w.1)

  to-publish : Some (machine.ToPublish plan.new plan.record) ≡ Some (machine.ToPublish (new_name j.actor) (record_name j.actor))
  to-publish = ap (λ (n : List ℕ). Some (machine.ToPublish n plan.record)) p.new_is ∙ ap (λ (n : List ℕ). Some (machine.ToPublish (new_name j.actor) n)) p.record_is

  to-stage : (a b : List ℕ) → a ≡ b → Some (machine.ToStage plan.new a) ≡ Some (machine.ToStage (new_name j.actor) b)
  to-stage a b e = ap (λ (n : List ℕ). Some (machine.ToStage n a)) p.new_is ∙ ap (λ (c : List ℕ). Some (machine.ToStage (new_name j.actor) c)) e

  next-same : (s : Step) → Fits (files_of plan) (entries_of place) s → Holds j made place.files place.ways place.go s → Same s
  next-same Looking f h = ap (λ (n : List ℕ). Some (machine.ToLoad n)) p.record_is
  next-same (Undoing at end locks th) f h = next-undoing at end locks th f.0 (omega (arith, f.1, names-count th))
  next-same (Placing at th) f h = next-placing at th (omega (arith, f.0, names-count th))
  next-same (Testing at) f h = next-testing at (omega (arith, f, names-count GoOn))
  next-same (Removing at th) f h = next-removing at th
  next-same (Extending at th) f h = next-extending at th f.0 h
  next-same (Discarding at th) f h = next-discarding at th (omega (arith, f.0, names-count th))
  next-same (Unlocking at end th) f h = next-unlocking at end th f.0 (omega (arith, f.1, names-count th))
  next-same (Erasing th) f h = ap (λ (n : List ℕ). Some (machine.ToErase n)) p.record_is
  next-same (Clearing c) f h = ap (λ (n : List ℕ). Some (machine.ToErase n)) p.new_is
  next-same Preparing f h = to-stage plan.prepare _ (p.texts_are h).prepare_is
  next-same Publishing f h = to-publish
  next-same (Locking at) f h = next-locking at f
  next-same (Loading at) f h = next-loading at f
  next-same (Staging at) f h = next-staging at f h
  next-same Deciding f h = to-stage place.go _ h.go_is
  next-same Committing f h = to-publish
  next-same Checking f h = ap (λ (n : List ℕ). Some (machine.ToLoad n)) p.record_is
  next-same (Releasing e) f h = ap (λ (n : List ℕ). Some (machine.ToRelease n)) p.right_is
  next-same (Ended e) f h = refl

pub next-of : (plan : Plan) (place : Place) → NextOf plan place (call_at place.step)
next-of plan place j s p q stands = next-same j plan place stands.hidden stands.made p q place.step q.fits stands.holds ∙ ap (next j) stands.is
