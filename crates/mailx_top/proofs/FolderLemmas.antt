-- The folder of a run, by its name and by what was loaded.
use Rattle.std.proofs.Common.{◌≡◌, ◌<◌, ℕ, suc, true, List, [], ◌∷◌, length, refl, sym, ap, ◌∙◌, ⊎_elim, subst, inl, arith}
use Rattle.std.specs.Prelude.{nat_lt}
use Rattle.std.specs.declared.option.Option.{Option}
use Rattle.std.specs.declared.option.Option.TheVariants.{Some, None}
use Rattle.std.proofs.lemmas.Bool.{cases_Bool, cond-true, cond-false}
use Rattle.std.specs.declared.result.Result.{Result}
use Rattle.std.specs.declared.result.Result.TheVariants.{Err}
use Rattle.mbox_scan.specs.declared.folder.Folder.{Folder}
use Rattle.mbox_scan.specs.declared.error.ScanError.{ScanError}
use Rattle.mbox_scan.specs.declared.error.ScanError.TheVariants as scan
use Rattle.mbox_scan.specs.Mailbox.{list_of, is_mailbox, texts_of, starts, pieces, message_limit}
use Rattle.mail_text.specs.Lines.{with_feed}
use Rattle.session_state.specs.Placing.{placed}
use Rattle.session_state.specs.declared.status.Status.TheVariants as status
use Rattle.mailx_top.specs.Words.{manner_of}
use Rattle.host_port.specs.declared.event.Event.{Event}
use Rattle.session_play.specs.declared.stop.Stop.{Stop}
use Rattle.session_play.specs.Play.{Goes, Next}
use Rattle.command_desk.specs.Answers.{OrFault}
use Rattle.session_state.specs.declared.state.SessionState.{SessionState}
use Rattle.session_state.specs.declared.status.Status.{Status}
use Rattle.session_asks.specs.Openings.{Opens}
use Rattle.command_words.specs.declared.options.Options.{Options}
use Rattle.mailx_top.specs.Meaning.{RunState, starting, folder_name, with_name, with_name_or_fault, loaded, unheld, is_no_mail, with_list, begun, greeted, heard, ends_with}
use Rattle.std.specs.Prelude.{◌++◌, codes, Bool, false}
use Rattle.mail_text.specs.declared.text.Text.{Text}
use Rattle.session_play.specs.declared.act.Found.{Found}
use Rattle.session_play.specs.declared.act.Found.TheVariants as found
use Rattle.mailx_vars.specs.Names.{is_short_name}
use borrow.Author.Tests.{lt-ltb}

length-pieces : (b ps : List ℕ) → length (pieces b ps) ≡ length ps
unfolding pieces
length-pieces b [] = refl
length-pieces b (p ∷ []) = refl
length-pieces b (p ∷ q ∷ later) = ap suc (length-pieces b (q ∷ later))

length-texts : (b : List ℕ) → length (texts_of b) ≡ length (starts b)
unfolding texts_of
length-texts b = length-pieces b (starts b)

listed : (b : List ℕ) → (list_of b ≡ None → ⊥) → list_of b ≡ Some (texts_of b)
unfolding list_of
listed b some = ⊎_elim (λ t. cond-true _ _ _ t) (λ f. absurd (some (cond-false _ _ _ f))) (cases_Bool (is_mailbox b))

-- a session that was opened goes as it is greeted
pub begun-goes : (old : SessionState) (o : Options) (name bytes : List ℕ) (s : SessionState) (out : Result (Next RunState Status) Stop)
    → Opens old name bytes s → (es : List Event) → Goes (greeted (manner_of o) s) es out
    → Goes (begun old o name bytes (texts_of bytes)) es out
begun-goes old o name bytes s out (rows, are, is) es went =
    let G : SessionState → Type 0 = λ d. Goes (greeted (manner_of o) d) es out in
    inl (rows, [], es, refl, (refl, are), subst G is went)

-- what is heard of a line
pub heard-none : (o : Options) (line : List ℕ) → o.exists ≡ true → heard o line ≡ []
heard-none o line is = cond-true _ _ _ is

pub heard-all : (o : Options) (line : List ℕ) → o.exists ≡ false → heard o line ≡ line
heard-all o line is = cond-false _ _ _ is

abbrev pub failed : ScanError → Result Folder ScanError
failed e = Err e

pub with-no-list : (s : SessionState) (o : Options) (name b : List ℕ) (l : Option (List (List ℕ))) → l ≡ None → with_list s o name b l ≡ ends_with o (with_feed (name ++ codes ": not a mailbox")) status.NoFolder
with-no-list s o name b l is = ap (with_list s o name b) is

pub with-held : (s : SessionState) (o : Options) (name : List ℕ) (f : Found) (b : Option Text) (h : Bool) → f ≡ found.Bytes b h → h ≡ true → loaded s o name f ≡ ends_with o (with_feed (name ++ codes ": busy")) status.Refused
with-held s o name f b h is held = ap (loaded s o name) (is ∙ ap (λ h. found.Bytes b h) held)

-- a file that isn't held, with no mail or with some
pub with-unheld : (s : SessionState) (o : Options) (name : List ℕ) (bytes : Option (List ℕ)) (b : Bool) → is_no_mail o.folder bytes ≡ b
    → loaded s o name (found.Bytes bytes false) ≡ unheld s o name bytes b
with-unheld s o name bytes b is = ap (unheld s o name bytes) is

pub with-large : (s : SessionState) (o : Options) (name : List ℕ) (f : Found) (n : ℕ) → f ≡ found.TooLarge n → loaded s o name f ≡ ends_with o (with_feed (name ++ codes ": too large")) status.NoFolder
with-large s o name f n is = ap (loaded s o name) is

pub with-bad-name : (s : SessionState) (o : Options) (name : List ℕ) → is_short_name (placed s.here name) ≡ false → with_name s o name ≡ ends_with o (with_feed (name ++ codes ": bad name")) status.NoFolder
with-bad-name s o name bad = cond-false _ _ _ bad

-- what is done by what the folder's word stands for
pub with-word : (s : SessionState) (o : Options) (name : OrFault (List ℕ)) → folder_name s o ≡ name → starting s o ≡ with_name_or_fault s o name
with-word s o name is = ap (with_name_or_fault s o) is

-- what is done where more messages start than a folder may have
pub with-too-many : (s : SessionState) (o : Options) (name b : List ℕ) (count : ℕ) (e : ScanError) → e ≡ scan.TooMany count
    → (list_of b ≡ None → failed e ≡ failed scan.NotAMailbox) → count ≡ length (starts b) → message_limit < count
    → with_list s o name b (list_of b) ≡ ends_with o (with_feed (name ++ codes ": too many messages")) status.NoFolder
with-too-many s o name b count e found some is many =
    let long : nat_lt message_limit (length (texts_of b)) ≡ true = lt-ltb _ _ (let e = length-texts b in omega arith) in
    ap (with_list s o name b) (listed b (λ none. other (ap failed (sym found) ∙ some none))) ∙ cond-true _ _ _ long
  where
    other : failed (scan.TooMany count) ≡ failed scan.NotAMailbox → ⊥
    other h = absurd (cc h)
