-- Under which path the program works (POSIX, "pwd": the option -L).
use Rattle.std.specs.Prelude.{ℕ, List, Bool, ◌==◌, ◌&&◌, ◌||◌, not, if◌then◌else◌, Option, Some, None, Result, Ok, Err, codes, nat_eq}
use Rattle.std.specs.List.{list_all, slice_split, starts_with}
use Rattle.std.specs.Str.{bytes_eq}
use Rattle.compose.specs.Given.{Given, text_in, unread}
use Rattle.compose.specs.declared.directory.DirectoryRefusal.{DirectoryRefusal}

-- a part of a path that leads to no other directory than its name says
abbrev pub is_name : List ℕ → Bool
is_name part = not (bytes_eq part (codes ".") || bytes_eq part (codes ".."))

-- a path from the root, without `.` and `..`
abbrev pub is_plain : List ℕ → Bool
is_plain path = starts_with nat_eq path (codes "/") && list_all is_name (slice_split (λ b. b == 47) path)

-- a path that is text
abbrev pub path_in : Option (List ℕ) → Result (List ℕ) DirectoryRefusal
path_in None = Err DirectoryRefusal.BadUtf8
path_in (Some path) = Ok path

-- the path that the system gives, if it gives one in UTF-8
abbrev pub path_given : Option (List ℕ) → Result (List ℕ) DirectoryRefusal
path_given None = Err DirectoryRefusal.ReadFault
path_given (Some path) = path_in (text_in path)

-- the variable PWD gives the directory's name where it leads there from the root; else the system's path stands
abbrev pub directory_given : Given → Option (List ℕ) → Result (List ℕ) DirectoryRefusal
directory_given given None = path_given given.directory
directory_given given (Some name) =
    if bytes_eq name unread then Err DirectoryRefusal.BadUtf8
    else (if is_plain name && given.leads name then Ok name else path_given given.directory)
