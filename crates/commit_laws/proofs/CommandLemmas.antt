-- What a line of a session asks for.
use Rattle.std.proofs.Common.{◌≡◌, ℕ, ◌+◌, ◌-◌, ◌*◌, Bool, true, false, inl, inr, List, [], ◌∷◌, length, map, refl, subst}
use Rattle.std.specs.Prelude.{◌==◌, codes, is_some, nat_lt, slice_index, if◌then◌else◌}
use Rattle.std.specs.Str.{bytes_eq}
use Rattle.std.specs.declared.option.Option.{Option}
use Rattle.std.specs.declared.option.Option.TheVariants.{Some, None}
use Rattle.std.specs.declared.result.Result.{Result}
use Rattle.std.specs.declared.result.Result.TheVariants.{Ok, Err}
use Rattle.alias_groups.specs.Groups.{define_refusal}
use Rattle.draft_text.specs.declared.draft.Draft.{Draft}
use Rattle.draft_text.specs.declared.reply.ReplyHow.TheVariants as how
use Rattle.mailx_vars.specs.Expansion.{folder_value}
use Rattle.line_words.specs.declared.line.CommandLine.{CommandLine}
use Rattle.line_words.specs.declared.command.Command.{Command}
use Rattle.line_words.specs.declared.command.Command.TheVariants as command
use Rattle.line_words.specs.Line.{reading}
use Rattle.mailx_macros.specs.Macros.{begin_refusal, line_refusal, body_of}
use Rattle.mailx_macros.specs.declared.error.MacroError.{MacroError}
use Rattle.mailx_vars.specs.Settings.{is_set, value_of}
use Rattle.message_list.specs.declared.list.Purpose.TheVariants.{Live, Dead, Any}
use Rattle.message_state.specs.declared.mark.Act.{Act}
use Rattle.message_state.specs.declared.mark.Act.TheVariants as act
use Rattle.message_show.specs.declared.text.How.{How}
use Rattle.message_show.specs.declared.text.How.TheVariants.{Kept, All}
use Rattle.rc_conditionals.specs.declared.conditions.Condition.{Condition}
use Rattle.rc_conditionals.specs.declared.error.CondError.{CondError}
use Rattle.rc_conditionals.specs.Turns.{turned}
use Rattle.thread_view.specs.declared.view.ViewKind.{ViewKind}
use Rattle.command_desk.specs.declared.desk.Desk.{Desk}
use Rattle.command_desk.specs.declared.steps.Steps.{Steps}
use Rattle.command_desk.specs.Answers.{OrFault, next, unless, effects_alone}
use Rattle.command_desk.specs.Selecting.{chosen, last_word, list_words, single}
use Rattle.show_commands.specs.Paging as paging
use Rattle.show_commands.specs.Printing as printing
use Rattle.show_commands.specs.Telling as telling
use Rattle.desk_commands.specs.Calling as calling
use Rattle.desk_commands.specs.Conditions as conditions
use Rattle.desk_commands.specs.Defining as defining
use Rattle.desk_commands.specs.Defining.{definition_line}
use Rattle.desk_commands.specs.Deleting as deleting
use Rattle.desk_commands.specs.Flagging as flags
use Rattle.desk_commands.specs.Leaving as marks
use Rattle.desk_commands.specs.Naming as names
use Rattle.desk_commands.specs.Setting as setting
use Rattle.desk_commands.specs.Sourcing as sourcing
use Rattle.desk_commands.specs.Viewing as viewing
use Rattle.command_desk.specs.Effects.{unchanged}
use Rattle.command_desk.specs.Faults.{bad_arguments}
use Rattle.command_desk.specs.FileNames.{expanded}
use Rattle.draft_commands.specs.Mailing as mailing
use Rattle.draft_commands.specs.Replying as replying
use Rattle.child_commands.specs.Editing as editing
use Rattle.child_commands.specs.Listing as listing
use Rattle.child_commands.specs.Piping as piping
use Rattle.folder_commands.specs.declared.wanted.Filing.{Filing}
use Rattle.folder_commands.specs.Opening.{file}
use Rattle.folder_commands.specs.Opening as opened
use Rattle.folder_commands.specs.Saving.{copy, copy_by_author, save, save_by_author, write}
use Rattle.filing_laws.specs.Saving.{Files}
use Rattle.read_commands.specs.declared.origin.Origin.{Origin}
use Rattle.read_commands.specs.Commands.{filed, gathering, has_words_too_many, meaning, meaning_of, name_of, read_or_fault, steps_of}
use Rattle.read_commands.specs.Origins.{allowed, commanded, commanded_outside, is_defining, line_of_origin, passes_over, read_from}
use Rattle.commit_laws.specs.Asking.{LineAsks, LinesAsk, nothing, one, files, leaves, opens}

module _ (home : Desk) where
  abbrev pub Good : OrFault Steps → Type 0
  Good (Ok steps) = LineAsks home steps.asks
  Good (Err line) = Unit {0}

  -- ---- how commands are put together
  either : (b : Bool) (x y : OrFault Steps) → Good x → Good y → Good (if b then x else y)
  either true x y l r = l
  either false x y l r = r

  then_so : {A : Type 0} (m : OrFault A) (k : A → OrFault Steps) → ((a : A) → Good (k a)) → Good (next m k)
  then_so (Ok a) k each = each a
  then_so (Err line) k each = tt

  unless_so : (found : Option (List ℕ)) (line : List ℕ → List ℕ) (m : OrFault Steps) → Good m → Good (unless found line m)
  unless_so (Some word) line m good = tt
  unless_so None line m good = good

  -- ---- what prints
  print_so : (how : How) (desk : Desk) (words : List (List ℕ)) → Good (printing.print how desk words)
  print_so how desk words = then_so (chosen Live desk words) _ (λ ns. one tt)

  top_so : (desk : Desk) (words : List (List ℕ)) → Good (printing.top desk words)
  top_so desk words = then_so (chosen Live desk words) _ (λ ns. then_so (printing.number_of_variable desk.vars (codes "toplines")) _ (λ count. one tt))

  print_next_so : (desk : Desk) (n : Option ℕ) → Good (printing.print_next desk n)
  print_next_so desk (Some n) = one tt
  print_next_so desk None = tt

  print_following_so : (desk : Desk) (words : List (List ℕ)) → Good (printing.print_following desk words)
  print_following_so desk [] = print_next_so desk (printing.following desk)
  print_following_so desk (w ∷ ws) = then_so (chosen Live desk (w ∷ ws)) _ (λ ns. print_next_so desk (printing.following_of desk ns))

  headers_so : (desk : Desk) (words : List (List ℕ)) → Good (paging.headers desk words)
  headers_so desk [] = then_so (paging.page_size desk) _ (λ size. one tt)
  headers_so desk (w ∷ ws) =
      then_so (chosen Live desk (w ∷ ws)) _ (λ ns. then_so (single (codes "headers") ns) _ (λ n. then_so (paging.page_size desk) _ (λ size. one tt)))

  turned_so : (desk : Desk) (page size : ℕ) → Good (paging.turned desk page size)
  turned_so desk page size = either (nat_lt (page * size) (length desk.shown.order)) _ _ (one tt) tt

  scrolled_so : (desk : Desk) (back : Bool) (size : ℕ) → Good (paging.scrolled desk back size)
  scrolled_so desk true size = either (desk.page == 0) _ _ tt (turned_so desk (desk.page - 1) size)
  scrolled_so desk false size = turned_so desk (desk.page + 1) size

  scroll_so : (desk : Desk) (back : Bool) → Good (paging.scroll desk back)
  scroll_so desk back = then_so (paging.page_size desk) _ (λ size. scrolled_so desk back size)

  from_so : (desk : Desk) (words : List (List ℕ)) → Good (telling.from desk words)
  from_so desk words = then_so (chosen Any desk words) _ (λ ns. one tt)

  size_so : (desk : Desk) (words : List (List ℕ)) → Good (telling.size desk words)
  size_so desk words = then_so (chosen Any desk words) _ (λ ns. one tt)

  -- ---- what marks
  print_after_so : (desk : Desk) (ns : List ℕ) (n : Option ℕ) → Good (deleting.print_after desk ns n)
  print_after_so desk ns (Some n) = one tt
  print_after_so desk ns None = one tt

  delete_and_print_so : (desk : Desk) (words : List (List ℕ)) → Good (deleting.delete_and_print desk words)
  delete_and_print_so desk words = then_so (chosen Live desk words) _ (λ ns. print_after_so desk ns (deleting.after_deleting desk.shown ns))

  delete_so : (desk : Desk) (words : List (List ℕ)) → Good (deleting.delete desk words)
  delete_so desk words =
      either (is_set desk.vars (codes "autoprint")) _ _ (delete_and_print_so desk words) (then_so (chosen Live desk words) (λ ns. effects_alone (deleting.deleted desk ns)) (λ ns. nothing))

  give_back_so : (desk : Desk) (ns : List ℕ) → Good (deleting.give_back desk ns)
  give_back_so desk ns = either (is_set desk.vars (codes "autoprint")) _ _ (one tt) nothing

  undelete_so : (desk : Desk) (words : List (List ℕ)) → Good (deleting.undelete desk words)
  undelete_so desk words = then_so (chosen Dead desk words) _ (λ ns. give_back_so desk ns)

  flagging_so : (a : Act) (desk : Desk) (words : List (List ℕ)) → Good (flags.flagging a desk words)
  flagging_so a desk words = then_so (chosen Live desk words) _ (λ ns. nothing)

  mark_so : (a : Act) (desk : Desk) (words : List (List ℕ)) → Good (marks.mark a desk words)
  mark_so a desk words = then_so (chosen Live desk words) _ (λ ns. nothing)

  -- ---- what sets and names
  set_so : (desk : Desk) (words : List (List ℕ)) → Good (setting.set desk words)
  set_so desk [] = one tt
  set_so desk (w ∷ ws) = unless_so (setting.first_refusal desk.vars (map setting.setting_of (w ∷ ws))) (λ line. line) _ nothing

  unset_so : (desk : Desk) (words : List (List ℕ)) → Good (setting.unset desk words)
  unset_so desk [] = tt
  unset_so desk (w ∷ ws) = nothing

  source_so : (desk : Desk) (words : List (List ℕ)) → Good (sourcing.source desk words)
  source_so desk [] = tt
  source_so desk (word ∷ []) = then_so (expanded desk word) _ (λ name. one tt)
  source_so desk (w ∷ v ∷ ws) = tt

  turns_so : (test : List ℕ) (r : Result (List Condition) CondError) → Good (conditions.turns_or_fault test r)
  turns_so test (Ok list) = nothing
  turns_so test (Err e) = tt

  opening_so : (desk : Desk) (words : List (List ℕ)) → Good (conditions.opening desk words)
  opening_so desk [] = tt
  opening_so desk (test ∷ []) = turns_so test (turned (codes "if") test desk.mode desk.terminal desk.conditions)
  opening_so desk (w ∷ v ∷ ws) = tt

  turning_so : (desk : Desk) (name : List ℕ) (words : List (List ℕ)) → Good (conditions.turning_alone desk name words)
  turning_so desk name [] = turns_so [] (turned name [] desk.mode desk.terminal desk.conditions)
  turning_so desk name (w ∷ ws) = tt

  condition_so : (desk : Desk) (name : List ℕ) (words : List (List ℕ)) → Good (conditions.condition desk name words)
  condition_so desk name words =
      either (bytes_eq name (codes "if")) _ _ (opening_so desk words)
      (either (bytes_eq name (codes "else")) _ _ (turning_so desk (codes "else") words) (turning_so desk (codes "endif") words))

  alias_so : (desk : Desk) (words : List (List ℕ)) → Good (names.alias desk words)
  alias_so desk [] = one tt
  alias_so desk (name ∷ []) = one tt
  alias_so desk (name ∷ member ∷ members) = either (is_some (define_refusal desk.aliases (member ∷ members))) _ _ tt nothing

  unalias_so : (desk : Desk) (words : List (List ℕ)) → Good (names.unalias desk words)
  unalias_so desk [] = tt
  unalias_so desk (w ∷ ws) = nothing

  alternates_so : (desk : Desk) (words : List (List ℕ)) → Good (names.alternates desk words)
  alternates_so desk [] = one tt
  alternates_so desk (w ∷ ws) = nothing

  ignore_so : (desk : Desk) (words : List (List ℕ)) → Good (names.ignore desk words)
  ignore_so desk [] = one tt
  ignore_so desk (w ∷ ws) = nothing

  retain_so : (desk : Desk) (words : List (List ℕ)) → Good (names.retain desk words)
  retain_so desk [] = one tt
  retain_so desk (w ∷ ws) = nothing

  -- ---- macros
  macro_so : (name : List ℕ) (e : Option MacroError) (m : OrFault Steps) → Good m → Good (defining.or_macro_fault name e m)
  macro_so name (Some e) m good = tt
  macro_so name None m good = good

  define_so : (desk : Desk) (words : List (List ℕ)) → Good (defining.define desk words)
  define_so desk [] = tt
  define_so desk (name ∷ []) = tt
  define_so desk (name ∷ brace ∷ []) =
      either (bytes_eq brace (codes "{")) _ _ (macro_so name (begin_refusal desk.macros name) _ nothing) tt
  define_so desk (name ∷ brace ∷ w ∷ ws) = tt

  called_so : (name : List ℕ) (o : Option (List (List ℕ))) → Good (calling.calling_or_fault name o)
  called_so name (Some lines) = one tt
  called_so name None = tt

  call_so : (desk : Desk) (words : List (List ℕ)) → Good (calling.call desk words)
  call_so desk [] = tt
  call_so desk (name ∷ []) = called_so name (body_of desk.macros.done name)
  call_so desk (w ∷ v ∷ ws) = tt

  undef_so : (desk : Desk) (words : List (List ℕ)) → Good (defining.undef desk words)
  undef_so desk [] = tt
  undef_so desk (w ∷ ws) = nothing

  definition_so : (desk : Desk) (line : List ℕ) → Good (definition_line desk line)
  definition_so desk line = either (bytes_eq line (codes "}")) _ _ nothing (macro_so [] (line_refusal desk.macros line) _ nothing)

  -- ---- drafts
  mail_so : (desk : Desk) (words : List (List ℕ)) → Good (mailing.mail desk words)
  mail_so desk [] = tt
  mail_so desk (w ∷ ws) = one tt

  begun_so : (recorded : Bool) (desk : Desk) (ns : List ℕ) (draft : Draft) → Good (replying.begun recorded desk ns draft)
  begun_so recorded desk ns draft = then_so (replying.recorded_in recorded desk (slice_index ns 0)) _ (λ file. one tt)

  answer_one_so : (recorded : Bool) (name : List ℕ) (desk : Desk) (words : List (List ℕ)) → Good (replying.answer_message recorded name desk words)
  answer_one_so recorded name desk words =
      then_so (chosen Live desk words) _ (λ ns. then_so (single name ns) _ (λ n. then_so (replying.answer_one how.All desk n) _ (λ draft. begun_so recorded desk ns draft)))

  answer_all_so : (recorded : Bool) (desk : Desk) (words : List (List ℕ)) → Good (replying.answer_messages recorded desk words)
  answer_all_so recorded desk words =
      then_so (chosen Live desk words) _ (λ ns. then_so (replying.answer_all desk ns) _ (λ draft. begun_so recorded desk ns draft))

  reply_so : (name : List ℕ) (desk : Desk) (words : List (List ℕ)) → Good (replying.reply name desk words)
  reply_so name desk words = either (replying.is_flipped desk) _ _ (answer_all_so false desk words) (answer_one_so false name desk words)

  reply_authors_so : (name : List ℕ) (desk : Desk) (words : List (List ℕ)) → Good (replying.reply_authors name desk words)
  reply_authors_so name desk words = either (replying.is_flipped desk) _ _ (answer_one_so false name desk words) (answer_all_so false desk words)

  -- ---- children, editors and views
  into_command_so : (desk : Desk) (list : List (List ℕ)) (command : List ℕ) → Good (piping.into_command desk list command)
  into_command_so desk list command = then_so (chosen Live desk list) _ (λ ns. one tt)

  into_value_so : (name : List ℕ) (desk : Desk) (value : Option (List ℕ)) → Good (piping.into_value name desk value)
  into_value_so name desk (Some command) = into_command_so desk [] command
  into_value_so name desk None = tt

  pipe_so : (name : List ℕ) (desk : Desk) (words : List (List ℕ)) → Good (piping.pipe name desk words)
  pipe_so name desk words =
      either (length words == 0) _ _ (into_value_so name desk (value_of desk.vars (codes "cmd"))) (into_command_so desk (list_words words) (last_word words))

  folders_so : (desk : Desk) → Good (listing.folders desk)
  folders_so desk = either (length (folder_value desk.vars) == 0) _ _ tt (one tt)

  edited_by_so : (name command : List ℕ) (desk : Desk) (words : List (List ℕ)) → Good (editing.edited_by name command desk words)
  edited_by_so name command desk words = then_so (chosen Live desk words) _ (λ ns. then_so (single name ns) _ (λ n. one tt))

  viewing_so : (kind : Option ViewKind) → Good (viewing.viewing_or_fault kind)
  viewing_so (Some kind) = one tt
  viewing_so None = tt

  sort_so : (words : List (List ℕ)) → Good (viewing.sort words)
  sort_so [] = tt
  sort_so (word ∷ []) = viewing_so (viewing.kind_named word)
  sort_so (w ∷ v ∷ ws) = tt

  -- ---- what commits
  filing_so : (words : List (List ℕ)) (m : OrFault Filing) → ((filing : Filing) → m ≡ Ok filing → Files home words filing) → Good (filed home m)
  filing_so words (Ok filing) is = go (is_set home.vars (codes "batch"))
    where
      go : (b : Bool) → LineAsks home (if b then gathering filing else steps_of filing).asks
      go true = one tt
      go false = files words filing (is filing refl)
  filing_so words (Err line) is = tt

  file_so : (name : List ℕ) (words : List (List ℕ)) → Good (file name home words)
  file_so name [] = one tt
  file_so name (word ∷ []) = then_so (expanded home word) (λ n. Ok (opened.opens home n)) (λ n. opens n)
  file_so name (w ∷ v ∷ ws) = tt

  -- ---- each command
  row_so : (c : Command) (line : CommandLine) → Good (meaning_of c line home)
  row_so command.Print line = print_so Kept home line.words
  row_so command.PrintAll line = print_so All home line.words
  row_so command.Top line = top_so home line.words
  row_so command.From line = from_so home line.words
  row_so command.Headers line = headers_so home line.words
  row_so command.Scroll line = scroll_so home (bytes_eq line.word (codes "z-"))
  row_so command.Next line = print_following_so home line.words
  row_so command.Number line = one tt
  row_so command.Echo line = one tt
  row_so command.Size line = size_so home line.words
  row_so command.Delete line = delete_so home line.words
  row_so command.DeleteAndPrint line = delete_and_print_so home line.words
  row_so command.Undelete line = undelete_so home line.words
  row_so command.Hold line = mark_so act.Hold home line.words
  row_so command.Mbox line = mark_so act.Mbox home line.words
  row_so command.Touch line = mark_so act.Touch home line.words
  row_so command.Flag line = flagging_so act.Flag home line.words
  row_so command.Unflag line = flagging_so act.Unflag home line.words
  row_so command.Answered line = flagging_so act.Answered home line.words
  row_so command.Unanswered line = flagging_so act.Unanswered home line.words
  row_so command.Draft line = flagging_so act.Draft home line.words
  row_so command.Undraft line = flagging_so act.Undraft home line.words
  row_so command.Set line = set_so home line.words
  row_so command.Unset line = unset_so home line.words
  row_so command.Source line = source_so home line.words
  row_so command.Condition line = condition_so home (name_of line.word) line.words
  row_so command.Alias line = alias_so home line.words
  row_so command.Unalias line = unalias_so home line.words
  row_so command.Alternates line = alternates_so home line.words
  row_so command.Ignore line = ignore_so home line.words
  row_so command.Retain line = retain_so home line.words
  row_so command.Define line = define_so home line.words
  row_so command.Call line = call_so home line.words
  row_so command.Undef line = undef_so home line.words
  row_so command.Defines line = one tt
  row_so command.Help line = one tt
  row_so command.Comment line = nothing
  row_so command.Copy line = filing_so line.words (copy home line.words) (λ filing is. inr (inr (inl is)))
  row_so command.CopyByAuthor line = filing_so line.words (copy_by_author home line.words) (λ filing is. inr (inr (inr (inl is))))
  row_so command.Save line = filing_so line.words (save home line.words) (λ filing is. inl is)
  row_so command.SaveByAuthor line = filing_so line.words (save_by_author home line.words) (λ filing is. inr (inl is))
  row_so command.Write line = filing_so line.words (write home line.words) (λ filing is. inr (inr (inr (inr is))))
  row_so command.File line = file_so (name_of line.word) line.words
  row_so command.Mail line = mail_so home line.words
  row_so command.Shell line = one tt
  row_so command.Pipe line = pipe_so (name_of line.word) home line.words
  row_so command.Folders line = folders_so home
  row_so command.Edit line = edited_by_so (codes "edit") home.places.editor home line.words
  row_so command.Visual line = edited_by_so (codes "visual") home.places.visual home line.words
  row_so command.Reply line = reply_so (name_of line.word) home line.words
  row_so command.ReplyAuthors line = reply_authors_so (name_of line.word) home line.words
  row_so command.Followup line = answer_one_so true (codes "followup") home line.words
  row_so command.FollowupAuthors line = answer_all_so true home line.words
  row_so command.Quit line = leaves
  row_so command.Exit line = one tt
  row_so command.Sort line = sort_so line.words
  row_so command.Thread line = one tt
  row_so command.Newmail line = one tt

  meaning_so : (line : CommandLine) → Good (meaning line home)
  meaning_so line = either (has_words_too_many line) (Err (bad_arguments (name_of line.word))) (meaning_of line.command line home) tt (row_so line.command line)

  found_so : (found : Option (List ℕ)) (line : CommandLine) → Good (next (unless found (λ said. said) (Ok line)) (λ l. meaning l home))
  found_so (Some said) line = tt
  found_so None line = meaning_so line

  read_so : (from : Origin) (m : OrFault CommandLine) → Good (next (next m (allowed from)) (λ l. meaning l home))
  read_so from (Ok line) = found_so (line_of_origin from line) line
  read_so from (Err said) = tt

  pub commanded_so : (from : Origin) (line : List ℕ) → Good (commanded from home line)
  commanded_so from line =
      either (is_defining home) (definition_line home line) (commanded_outside from home line) (definition_so home line)
      (either (passes_over home line) (effects_alone unchanged) (next (read_from from line) (λ l. meaning l home)) nothing (read_so from (read_or_fault (reading line))))

pub lines_ask : LinesAsk
lines_ask from desk line steps is = subst (Good desk) is (commanded_so desk from line)
