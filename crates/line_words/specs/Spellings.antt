-- The spellings of the commands.
use Rattle.std.specs.Prelude.{ℕ, Bool, not, ◌==◌, ◌&&◌, ◌||◌, List, [], ◌∷◌, filter, map, codes, Option}
use Rattle.std.specs.Option.{option_map}
use Rattle.std.specs.List.{find, before_first, starts_with}
use Rattle.line_words.specs.declared.command.Command.{Command}
use Rattle.line_words.specs.declared.command.Command.TheVariants.{Alias, Alternates, Answered, Call, Copy, CopyByAuthor, Delete, DeleteAndPrint, Define, Defines, Ignore, Draft, Echo, Edit, Condition, Exit, File, Flag, Folders, Followup, FollowupAuthors, From, Headers, Help, Hold, Mail, Mbox, Newmail, Next, Pipe, Print, PrintAll, Quit, Reply, ReplyAuthors, Retain, Save, SaveByAuthor, Set, Size, Sort, Thread, Source, Top, Touch, Unalias, Unanswered, Undef, Undelete, Undraft, Unflag, Unset, Visual, Write, Scroll, Shell, Number, Comment}

-- a spelling of a command: what a word must begin with at least, and the whole name
pub record Spelling : Type 0 where
  pub command : Command
  pub least : List ℕ
  pub whole : List ℕ

-- a spelling as it is written with what may be left out in brackets, as a[lias]
abbrev pub spelled : Command → List ℕ → Spelling
spelled command text = record {
  command = command;
  least = before_first (λ b. b == 91) text;
  whole = filter (λ b. not (b == 91 || b == 93)) text;
}

-- the spellings of all commands, in the order of the bytes of their whole names
unfoldable pub spellings : List Spelling
spellings =
    spelled Shell (codes "!")
    ∷ spelled Comment (codes "#")
    ∷ spelled Number (codes "=")
    ∷ spelled Help (codes "?")
    ∷ spelled CopyByAuthor (codes "C[opy]")
    ∷ spelled FollowupAuthors (codes "F[ollowup]")
    ∷ spelled PrintAll (codes "P[rint]")
    ∷ spelled ReplyAuthors (codes "R[eply]")
    ∷ spelled ReplyAuthors (codes "R[espond]")
    ∷ spelled SaveByAuthor (codes "S[ave]")
    ∷ spelled PrintAll (codes "T[ype]")
    ∷ spelled Alias (codes "a[lias]")
    ∷ spelled Alternates (codes "alt[ernates]")
    ∷ spelled Answered (codes "answered")
    ∷ spelled Call (codes "call")
    ∷ spelled Copy (codes "c[opy]")
    ∷ spelled Define (codes "define")
    ∷ spelled Defines (codes "defines")
    ∷ spelled Delete (codes "d[elete]")
    ∷ spelled Ignore (codes "di[scard]")
    ∷ spelled DeleteAndPrint (codes "dp")
    ∷ spelled Draft (codes "draft")
    ∷ spelled DeleteAndPrint (codes "dt")
    ∷ spelled Echo (codes "ec[ho]")
    ∷ spelled Edit (codes "e[dit]")
    ∷ spelled Condition (codes "el[se]")
    ∷ spelled Condition (codes "en[dif]")
    ∷ spelled Exit (codes "ex[it]")
    ∷ spelled File (codes "fi[le]")
    ∷ spelled Flag (codes "flag")
    ∷ spelled File (codes "fold[er]")
    ∷ spelled Folders (codes "folders")
    ∷ spelled Followup (codes "fo[llowup]")
    ∷ spelled From (codes "f[rom]")
    ∷ spelled Alias (codes "g[roup]")
    ∷ spelled Headers (codes "h[eaders]")
    ∷ spelled Help (codes "hel[p]")
    ∷ spelled Hold (codes "ho[ld]")
    ∷ spelled Condition (codes "if")
    ∷ spelled Ignore (codes "ig[nore]")
    ∷ spelled Help (codes "l[ist]")
    ∷ spelled Mail (codes "m[ail]")
    ∷ spelled Mbox (codes "mb[ox]")
    ∷ spelled Newmail (codes "newmail")
    ∷ spelled Next (codes "n[ext]")
    ∷ spelled Pipe (codes "pi[pe]")
    ∷ spelled Hold (codes "pre[serve]")
    ∷ spelled Print (codes "p[rint]")
    ∷ spelled Quit (codes "q[uit]")
    ∷ spelled Reply (codes "r[eply]")
    ∷ spelled Reply (codes "r[espond]")
    ∷ spelled Retain (codes "ret[ain]")
    ∷ spelled Save (codes "s[ave]")
    ∷ spelled Set (codes "se[t]")
    ∷ spelled Size (codes "si[ze]")
    ∷ spelled Sort (codes "sort")
    ∷ spelled Source (codes "so[urce]")
    ∷ spelled Thread (codes "thread")
    ∷ spelled Top (codes "to[p]")
    ∷ spelled Touch (codes "tou[ch]")
    ∷ spelled Print (codes "t[ype]")
    ∷ spelled Unalias (codes "una[lias]")
    ∷ spelled Unanswered (codes "unanswered")
    ∷ spelled Undef (codes "undef")
    ∷ spelled Undelete (codes "u[ndelete]")
    ∷ spelled Undraft (codes "undraft")
    ∷ spelled Unflag (codes "unflag")
    ∷ spelled Unset (codes "uns[et]")
    ∷ spelled Thread (codes "unsort")
    ∷ spelled Thread (codes "unthread")
    ∷ spelled Visual (codes "v[isual]")
    ∷ spelled Write (codes "w[rite]")
    ∷ spelled Exit (codes "x[it]")
    ∷ spelled Scroll (codes "z")
    ∷ spelled Scroll (codes "z+")
    ∷ spelled Scroll (codes "z-")
    ∷ spelled Pipe (codes "|")
    ∷ []

-- the word begins with what stands before the bracket and is a front of the whole name
abbrev pub is_met : List ℕ → Spelling → Bool
is_met word spelling = starts_with (◌==◌) word spelling.least && starts_with (◌==◌) spelling.whole word

-- the spelling that the word meets, the first of two
abbrev pub spelling_of : List ℕ → Option Spelling
spelling_of word = find (is_met word) spellings

-- the command that the word names
abbrev pub command_of : List ℕ → Option Command
command_of word = option_map (λ s. s.command) (spelling_of word)

-- the whole name of the spelling that the word meets
abbrev pub whole_name : List ℕ → Option (List ℕ)
whole_name word = option_map (λ s. s.whole) (spelling_of word)

-- the whole names, in the order of their bytes
abbrev pub names : List (List ℕ)
names = map (λ s. s.whole) spellings
