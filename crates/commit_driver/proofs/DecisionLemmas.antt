-- The text of the decision, once the files are judged.
use Rattle.std.proofs.Common.{◌≡◌, ◌⊎◌, ℕ, ◌+◌, ◌≤◌, List, length, slice_set, refl, ap, sym, subst, inl, inr, ◌∙◌}
use Rattle.std.specs.declared.option.Option.{Option}
use Rattle.std.specs.declared.result.Result.{Result}
use Rattle.std.specs.declared.result.Result.TheVariants.{Ok, Err}
use Rattle.folder_change.specs.declared.change.Change.{Change}
use Rattle.commit_machine.specs.Records.{names_of}
use Rattle.commit_driver.specs.declared.judge.Trouble.{Trouble}
use Rattle.commit_driver.specs.declared.judge.Trouble.TheVariants as trouble
use Rattle.commit_driver.specs.declared.step.Step.{Step}
use Rattle.commit_driver.specs.declared.place.Plan.{Plan}
use Rattle.commit_driver.specs.declared.place.Place.{Place}
use Rattle.commit_driver.specs.Judging.{Judges, JudgesParts, TroubleFits}
use Rattle.commit_driver.specs.Holding.{AreHeldOf}
use Rattle.commit_driver.proofs.HoldingLemmas.{ways-held, parts-held}
use Rattle.commit_driver.specs.Places.{files_of, file_ways, parts_of, tails_for}
use Rattle.commit_driver.specs.Answers.{judged_at, MakesFiles, Takes, WritesGo}

-- running out of memory may stand for what the files were judged as
judged-still : (changes : List Change) (base names : List (List ℕ)) (files made : List (Option (List ℕ))) (judged result : Result Unit Trouble)
    → (result ≡ judged) ⊎ (result ≡ Err trouble.Memory) → Judges changes base names files judged made → Judges changes base names files result made
judged-still changes base names files made judged result (inl same) j = subst (λ (r : Result Unit Trouble). Judges changes base names files r made) (sym same) j
judged-still changes base names files made judged result (inr short) j = subst (λ (r : Result Unit Trouble). Judges changes base names files r made) (sym short) (λ fs distinct seen. tt)

fits-still : (n : ℕ) (judged result : Result Unit Trouble) → (result ≡ judged) ⊎ (result ≡ Err trouble.Memory) → TroubleFits n judged → TroubleFits n result
fits-still n judged result (inl same) f = subst (TroubleFits n) (sym same) f
fits-still n judged result (inr short) f = subst (TroubleFits n) (sym short) tt

-- where the files can't be judged so, the text stays
pub not-judged : (plan : Plan) (tails : List (Option ℕ)) (old : Place) (why : Trouble) → WritesGo plan tails (Err why) old (Err why) old
not-judged plan tails old why = record {
  same = inl refl;
  ways = old.ways;
  ways_are = λ e. absurd (cc);
  go = old.go;
  go_is = λ e. absurd (cc);
  is = refl;
}

judged-fine : (judged result : Result Unit Trouble) → (result ≡ judged) ⊎ (result ≡ Err trouble.Memory) → result ≡ Ok tt → judged ≡ Ok tt
judged-fine judged result (inl same) fine = sym same ∙ fine
judged-fine judged result (inr short) fine = absurd (cc (sym short ∙ fine))

-- the files are judged by what is held of them, and it is settled how they come to be
pub makes-files : (plan : Plan) (changes : List Change) (base : List (List ℕ)) (old now : Place) (stays : List (Option ℕ)) (ends : List (List ℕ)) (judged result : Result Unit Trouble)
    (held : List (Option (List ℕ))) → stays ≡ tails_for changes (names_of plan.value) old.files → files_of plan ≡ length (names_of plan.value) → length held ≡ length old.files
    → JudgesParts changes base (names_of plan.value) stays ends old.files judged held
    → WritesGo plan stays judged (record old { files = held }) result now → MakesFiles plan changes base old result now
makes-files plan changes base old now stays ends judged result held stays_are many long j w = record {
  made = j.made;
  judged = judged-still changes base (names_of plan.value) old.files j.made judged result w.same j.judged;
  fits = fits-still (files_of plan) judged result w.same (subst (λ (n : ℕ). TroubleFits n judged) (sym many) j.fits);
  ways = w.ways;
  ways_are = λ fine. ways fine;
  go = w.go;
  go_is = w.go_is;
  files = held;
  files_are = λ fine.
      parts-held stays ends j.made held (all fine)
      ∙ ap (parts_of j.made) (ap (file_ways j.made) stays_are ∙ sym (ways fine));
  long = long;
  is = w.is;
}
  where
    all : result ≡ Ok tt → AreHeldOf stays ends j.made held
    all fine = j.held (judged-fine judged result w.same fine)

    ways : result ≡ Ok tt → w.ways ≡ file_ways j.made (tails_for changes (names_of plan.value) old.files)
    ways fine = w.ways_are fine ∙ ways-held stays ends j.made held (all fine) ∙ ap (file_ways j.made) stays_are

-- memory runs out before they are judged
pub makes-none : (plan : Plan) (changes : List Change) (base : List (List ℕ)) (old : Place) → MakesFiles plan changes base old (Err trouble.Memory) old
makes-none plan changes base old = record {
  made = old.files;
  judged = λ fs distinct seen. tt;
  fits = tt;
  ways = old.ways;
  ways_are = λ e. absurd (cc);
  go = old.go;
  go_is = λ e. absurd (cc);
  files = old.files;
  files_are = λ e. absurd (cc);
  long = refl;
  is = refl;
}

pub takes-of : (plan : Plan) (at : ℕ) (file : Option (List ℕ)) (changes : List Change) (base : List (List ℕ)) (old now : Place) (result : Result Unit Trouble) (s : Step)
    → files_of plan ≤ at + 1 → MakesFiles plan changes base (record old { files = slice_set old.files at file }) result now
    → s ≡ judged_at (files_of plan) result → Takes plan at file changes base old (record now { step = s })
takes-of plan at file changes base old now result s last w is =
    inr (last, record { result = result; place = now; settles = w; is = ap (λ (z : Step). (let q : Place = record now { step = z } in q)) is })
