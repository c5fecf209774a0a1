-- What the command line asks for, as the manual says which flags, options and operands go together.
-- Which single words are refused is the clause of `read_words`, and shown by cases of leaf_cases.
use Rattle.std.specs.Prelude.{◌≡◌, ◌≢◌, ◌≤◌, ◌⊎◌, ◌↔◌, ℕ, true, false, List, [], length, decimal}
use Rattle.std.specs.Prelude.{Some, None}
use Rattle.command_words.specs.declared.mode.Mode.{Mode}
use Rattle.command_words.specs.declared.mode.Mode.TheVariants.{Try, Exists, Receive, Send}
use Rattle.command_words.specs.declared.options.Options.{Options}
use Rattle.command_words.specs.declared.reading.Wanted.{Wanted}
use Rattle.command_words.specs.Modes.{mode_of}
use Rattle.command_words.specs.Readings.{reading}

-- without `-s`, `-b` and `-c`
pub record HasNoDraft (o : Options) : Type 0 where
  pub subject : o.subject ≡ None
  pub blind : o.blind ≡ None
  pub copies : o.copies ≡ None

-- without `-H`, `-N`, `-F`, `-f`, `-u`, `-s`, `-b`, `-c` and operands
pub record IsBare (o : Options) : Type 0 where
  pub headers : o.headers ≡ false
  pub quiet : o.quiet ≡ false
  pub named : o.named ≡ false
  pub folder : o.folder ≡ false
  pub user : o.user ≡ None
  pub draft : HasNoDraft o
  pub operands : o.operands ≡ []

-- `--try N` alone, N from 1 to 100,000
pub record IsTry (count : ℕ) (o : Options) : Type 0 where
  pub tries : o.tries ≡ Some (decimal count)
  pub least : 1 ≤ count
  pub most : count ≤ 100000
  pub exists : o.exists ≡ false
  pub ignores : o.ignores ≡ false
  pub no_system_file : o.no_system_file ≡ false
  pub bare : IsBare o

-- `-e` with `-i` and `-n` alone
pub record IsExists (o : Options) : Type 0 where
  pub tries : o.tries ≡ None
  pub exists : o.exists ≡ true
  pub bare : IsBare o

-- no operand, or `-f` with at most one; with any of `-H -i -N -n -F`, and `-u` without `-f`
pub record IsReceive (o : Options) : Type 0 where
  pub operands : (o.operands ≡ []) ⊎ ((o.folder ≡ true) × (length o.operands ≤ 1))
  pub user : o.folder ≡ true → o.user ≡ None
  pub tries : o.tries ≡ None
  pub exists : o.exists ≡ false
  pub draft : HasNoDraft o

-- one operand or more without `-f`; with any of `-s -b -c -F -i -n`
pub record IsSend (o : Options) : Type 0 where
  pub operands : o.operands ≢ []
  pub folder : o.folder ≡ false
  pub tries : o.tries ≡ None
  pub exists : o.exists ≡ false
  pub headers : o.headers ≡ false
  pub quiet : o.quiet ≡ false
  pub user : o.user ≡ None

-- they ask for this
abbrev pub Asks : Options → Mode → Type 0
Asks o (Try count) = IsTry count o
Asks o Exists = IsExists o
Asks o Receive = IsReceive o
Asks o Send = IsSend o

-- the mode of options is that for which they ask; they have none exactly if they ask for none
abbrev pub ModesAreAsked : Type 0
ModesAreAsked = (o : Options) (mode : Mode) → (mode_of o ≡ Some mode) ↔ Asks o mode

-- so it is with the words of the command line
abbrev pub WantedIsAsked : Type 0
WantedIsAsked = (words : List (List ℕ)) (wanted : Wanted) → reading words ≡ Some wanted → Asks wanted.options wanted.mode
