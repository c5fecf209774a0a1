-- What a file name stands for.
-- A value of the variable `folder` isn't expanded itself.
use Rattle.std.specs.Prelude.{◌≡◌, ◌⊎◌, ◌==◌, ℕ, Bool, List, [], ◌++◌, length, drop, codes, nat_eq, unwrap_or, if◌then◌else◌}
use Rattle.std.specs.declared.result.Result.{Result}
use Rattle.std.specs.declared.result.Result.TheVariants.{Ok, Err}
use Rattle.std.specs.List.{starts_with}
use Rattle.std.specs.Str.{bytes_eq}
use Rattle.mailx_vars.specs.Settings.{Settings, value_of}
use Rattle.mailx_vars.specs.declared.environment.Places.{Places}
use Rattle.mailx_vars.specs.declared.error.NameError.{NameError}
use Rattle.mailx_vars.specs.declared.error.NameError.TheVariants.{NoPrevious, NoFolder, Memory}

-- a name has this in front
abbrev pub begins : List ℕ → List ℕ → Bool
begins name front = starts_with nat_eq name front

-- the value of the variable `folder`; one that is unset counts as empty
abbrev pub folder_value : Settings → List ℕ
folder_value vars = unwrap_or (value_of vars (codes "folder")) []

-- the folder of a value: a value without a leading `/` is taken in the home folder
abbrev pub folder_at : List ℕ → List ℕ → List ℕ
folder_at home value = if begins value (codes "/") then value else home ++ codes "/" ++ value

-- `+file`: the file in the folder, if a folder is set
abbrev pub in_folder : Places → Settings → List ℕ → Result (List ℕ) NameError
in_folder places vars file =
    if length (folder_value vars) == 0 then Err NoFolder
    else Ok (folder_at places.home (folder_value vars) ++ codes "/" ++ file)

-- `#`: the previous file, if there is one
abbrev pub previous_file : List ℕ → Result (List ℕ) NameError
previous_file previous = if length previous == 0 then Err NoPrevious else Ok previous

-- what a name stands for by its first bytes
abbrev pub front_expansion : Places → Settings → List ℕ → Result (List ℕ) NameError
front_expansion places vars name =
    if begins name (codes "%") then Ok (codes "/var/mail/" ++ drop 1 name)
    else if begins name (codes "+") then in_folder places vars (drop 1 name)
    else if begins name (codes "~/") then Ok (places.home ++ codes "/" ++ drop 2 name)
    else Ok name

-- what a name stands for
abbrev pub expansion : Places → Settings → List ℕ → List ℕ → Result (List ℕ) NameError
expansion places vars previous name =
    if bytes_eq name (codes "%") then Ok places.mail
    else if bytes_eq name (codes "#") then previous_file previous
    else if bytes_eq name (codes "&") then Ok places.mbox
    else front_expansion places vars name

-- the answer is the one that is due, or that memory ran out
abbrev pub IsUnlessMemory : Result (List ℕ) NameError → Result (List ℕ) NameError → Type 0
IsUnlessMemory answer due = (answer ≡ due) ⊎ (answer ≡ Err Memory)
