-- Laws of the spellings and of words.
use Rattle.std.specs.Prelude.{◌≡◌, ◌≢◌, ◌↔◌, ◌⊎◌, ℕ, Bool, true, false, ◌==◌, ◌&&◌, List, [], ◌∷◌, ◌++◌, Some, None}
use Rattle.std.specs.Ordering.{nat_cmp}
use Rattle.std.specs.Cmp.Lexicographic.{slice_cmp}
use Rattle.std.specs.declared.cmp.Ordering.TheVariants.{Less}
use Rattle.std.specs.List.{Contains, AllPairs, list_all}
use Rattle.line_words.specs.declared.command.Command.{Command}
use Rattle.line_words.specs.Spellings.{Spelling, spellings, is_met, command_of, names}
use Rattle.line_words.specs.Words.{is_quote, is_plain, lacks, IsCut, HasOpenQuote, words_by}

-- the word meets a spelling of the command
abbrev pub Names : List ℕ → Command → Type 0
Names word named = (s : Spelling) × Contains spellings s × (is_met word s ≡ true) × (s.command ≡ named)

-- the command that is found is the one command of which the word meets a spelling
abbrev pub NamesOne : Type 0
NamesOne = (word : List ℕ) (named : Command) → (command_of word ≡ Some named) ↔ Names word named

-- what stands before the bracket names the command of a spelling, and so does the whole name
abbrev pub SpellingsName : Type 0
SpellingsName = (s : Spelling) → Contains spellings s → (command_of s.least ≡ Some s.command) × (command_of s.whole ≡ Some s.command)

-- each command has a name
abbrev pub EachIsNamed : Type 0
EachIsNamed = (named : Command) → (word : List ℕ) × (command_of word ≡ Some named)

-- the whole names stand in the order of their bytes, each once
abbrev pub NamesAscend : Type 0
NamesAscend = AllPairs (λ a b. slice_cmp nat_cmp a b ≡ Less) names

-- the words of a line are those into which it is cut
abbrev pub WordsAreCut : Type 0
WordsAreCut = (lists : Bool) (line : List ℕ) (words : List (List ℕ)) → (words_by lists line ≡ Some words) ↔ IsCut lists line words

-- a line has no words exactly if it can't be cut
abbrev pub UncutHasNone : Type 0
UncutHasNone = (lists : Bool) (line : List ℕ) → (words_by lists line ≡ None) ↔ ((words : List (List ℕ)) → IsCut lists line words → ⊥)

-- a line has no words exactly if a quote in it isn't closed
abbrev pub OpenHasNone : Type 0
OpenHasNone = (lists : Bool) (line : List ℕ) → (words_by lists line ≡ None) ↔ HasOpenQuote lists line

-- a line is cut into one list of words at most
abbrev pub CutsAreOne : Type 0
CutsAreOne = (lists : Bool) (line : List ℕ) (words others : List (List ℕ)) → IsCut lists line words → IsCut lists line others → words ≡ others

-- the word begins with `(`
abbrev pub begins_enclosed : List ℕ → Bool
begins_enclosed [] = false
begins_enclosed (b ∷ bs) = b == 40

-- the text writes the word: as it is, if it is plain and not empty, and in a line of lists doesn't begin with `(`, or between
-- two quotes that it lacks
abbrev pub Writes : Bool → List ℕ → List ℕ → Type 0
Writes lists text word =
    ((text ≡ word) × (word ≢ []) × (list_all is_plain word ≡ true) × ((begins_enclosed word && lists) ≡ false))
    ⊎ ((quote : ℕ) × (is_quote quote ≡ true) × (lacks quote word ≡ true) × (text ≡ quote ∷ (word ++ quote ∷ [])))

-- the line writes the words, with a space between one and the next
abbrev pub WritesAll : Bool → List ℕ → List (List ℕ) → Type 0
WritesAll lists line [] = line ≡ []
WritesAll lists line (word ∷ []) = Writes lists line word
WritesAll lists line (word ∷ other ∷ words) =
    (text : List ℕ) × ((rest : List ℕ) × (line ≡ text ++ 32 ∷ rest) × Writes lists text word × WritesAll lists rest (other ∷ words))

-- words that are written so are cut into these words again
abbrev pub WordsReadBack : Type 0
WordsReadBack = (lists : Bool) (line : List ℕ) (words : List (List ℕ)) → WritesAll lists line words → words_by lists line ≡ Some words
