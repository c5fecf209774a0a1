-- The words of the command line: an operation, a mailbox and a token.
use Rattle.std.specs.Prelude.{◌==◌, ◌||◌, ◌&&◌, not, nat_le, ℕ, Bool, false, List, [], ◌∷◌, ◌++◌, length, Option, Some, None, codes, if◌then◌else◌}
use Rattle.std.specs.List.{list_all}
use Rattle.std.specs.Str.{bytes_eq}
use Rattle.mailx_vars.specs.Names.{is_user_name}
use Rattle.spool_rules.specs.declared.words.Operation.{Operation}
use Rattle.spool_rules.specs.declared.words.Operation.TheVariants.{Lock, Unlock, Stage, Publish, Erase, Discard}
use Rattle.spool_rules.specs.declared.words.Request.{Request}

abbrev pub operation_of : List ℕ → Option Operation
operation_of word =
    if bytes_eq word (codes "lock") then Some Lock else
    if bytes_eq word (codes "unlock") then Some Unlock else
    if bytes_eq word (codes "stage") then Some Stage else
    if bytes_eq word (codes "publish") then Some Publish else
    if bytes_eq word (codes "erase") then Some Erase else
    if bytes_eq word (codes "discard") then Some Discard else None

-- a lower case hexadecimal digit
abbrev pub is_digit : ℕ → Bool
is_digit b = (nat_le 48 b && nat_le b 57) || (nat_le 97 b && nat_le b 102)

-- 16 such digits
abbrev pub is_token : List ℕ → Bool
is_token word = (length word == 16) && list_all is_digit word

-- neither `/` nor `:`, which ends a name in the list of users
abbrev pub is_plain : ℕ → Bool
is_plain b = not (b == 47) && not (b == 58)

-- the name doesn't begin with `.`
abbrev pub begins_plainly : List ℕ → Bool
begins_plainly [] = false
begins_plainly (b ∷ bs) = not (b == 46)

-- a mailbox is named as its user, and so that the name is that of a file in the folder
abbrev pub is_mailbox : List ℕ → Bool
is_mailbox word = begins_plainly word && is_user_name word && list_all is_plain word

-- what is asked for, with the names that it may be about
abbrev pub requested : Operation → List ℕ → List ℕ → Request
requested operation user token = record {
  operation = operation;
  token = token;
  mailbox = user;
  lock = user ++ codes ".lock";
  beside = user ++ (codes ".lock.mx" ++ token);
  staged = user ++ (codes ".mx" ++ token);
}

-- what an operation asks for
abbrev pub asked : Option Operation → List ℕ → List ℕ → Option Request
asked None user token = None
asked (Some operation) user token = Some (requested operation user token)

-- what three words ask for, if they are understood
abbrev pub understood : List ℕ → List ℕ → List ℕ → Option Request
understood word user token = if is_mailbox user && is_token token then asked (operation_of word) user token else None

abbrev pub request_of : List (List ℕ) → Option Request
request_of (word ∷ user ∷ token ∷ []) = understood word user token
request_of words = None
