-- What `newmail` takes in.
use Rattle.std.proofs.Common.{◌≡◌, ◌∙◌, ℕ, true, false, List, [], ◌∷◌, ◌++◌, length, map, ap, refl, sym, Option, Some, None}
use Rattle.std.specs.Prelude.{drop}
use Rattle.std.specs.List.{AllZip}
use Rattle.std.specs.declared.result.Result.TheVariants.{Ok, Err}
use Rattle.std.proofs.lemmas.List.{map-append}
use Rattle.mbox_scan.specs.Mailbox.{texts_of}
use Rattle.folder_change.specs.Outcomes.{bytes_of}
use Rattle.folder_commands.proofs.GrowingLemmas.{more-than}
use Rattle.message_state.specs.declared.mark.Mark.{Mark}
use Rattle.message_state.specs.declared.row.Row.{Row}
use Rattle.message_state.specs.Rows.{IsRow}
use Rattle.message_state.specs.Status.{mark_of}
use Rattle.session_play.specs.declared.act.Found.{Found}
use Rattle.session_play.specs.declared.act.Found.TheVariants as found
use Rattle.command_desk.specs.declared.desk.Desk.{Desk}
use Rattle.command_desk.specs.Answers.{OrFault}
use Rattle.command_desk.proofs.DeskLemmas.{as-many}
use Rattle.session_asks.specs.Renewing.{loaded_again, texts_behind, with_bytes}
use Rattle.commit_laws.specs.NewMail.{NewMailStandsBehind}

abbrev refused_by : List ℕ → OrFault (List ℕ)
refused_by line = Err line

abbrev opened_as : List ℕ → OrFault (List ℕ)
opened_as bytes = Ok bytes

never : (line bytes : List ℕ) {P : Type 0} → refused_by line ≡ opened_as bytes → P
never line bytes is = absurd (cc is)

-- the texts that came are those behind as many as there were
behind_texts : (desk : Desk) (f : Option Found) (bytes : List ℕ) → loaded_again desk f ≡ Ok bytes
    → texts_of bytes ≡ texts_of desk.folder.folder ++ drop (length (texts_of desk.folder.folder)) (texts_of bytes)
behind_texts desk None bytes is = never _ bytes is
behind_texts desk (Some (found.TooLarge n)) bytes is = never _ bytes is
behind_texts desk (Some (found.Bytes file true)) bytes is = never _ bytes is
behind_texts desk (Some (found.Bytes file false)) bytes is = more-than desk.folder.name desk.folder.folder (bytes_of file) bytes is

-- rows of texts have the marks of these
own_marks : (texts : List (List ℕ)) (rows : List Row) → AllZip IsRow texts rows → map (λ (row : Row). row.mark) rows ≡ map mark_of texts
own_marks [] [] is = refl
own_marks [] (row ∷ rows) is = absurd is
own_marks (t ∷ texts) [] is = absurd is
own_marks (t ∷ texts) (row ∷ rows) is = ap (λ (m : Mark). m ∷ map (λ (row : Row). row.mark) rows) is.0.mark ∙ ap (λ (ms : List Mark). mark_of t ∷ ms) (own_marks texts rows is.1)

pub new_mail_stands_behind : NewMailStandsBehind
new_mail_stands_behind old new f desk takes =
    let bytes = takes.bytes in
    let shows = takes.shows in
    let came = texts_behind (with_bytes old bytes) in
    let marked : List Row → List Mark = λ rows. map (λ (row : Row). row.mark) rows in
    let texts : texts_of bytes ≡ texts_of old.folder.folder ++ came =
    behind_texts old f bytes takes.grown ∙ ap (λ (k : ℕ). texts_of old.folder.folder ++ drop k (texts_of bytes)) (sym (as-many old desk)) in
    let marks : new.folder.marks ≡ marked (old.shown.rows ++ shows.more) = ap (λ (d : Desk). d.folder.marks) shows.is in
    record {
      came = came;
      texts = ap (λ (d : Desk). texts_of d.folder.folder) shows.is ∙ texts;
      marks = marks ∙ (map-append (λ (row : Row). row.mark) old.shown.rows shows.more
          ∙ (ap (λ (ms : List Mark). ms ++ marked shows.more) (sym desk.marks) ∙ ap (λ (ms : List Mark). old.folder.marks ++ ms) (own_marks came shows.more shows.are)));
    }
