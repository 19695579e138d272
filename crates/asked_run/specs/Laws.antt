-- What holds of what a call declares.
use Rattle.std.specs.Prelude.{◌≡◌, ◌⊎◌, Some}
use Rattle.asked_run.specs.Declaring.{AreDigests}
use Rattle.asked_run.specs.Told.{IsHindered, digests_for}
use Rattle.compose_words.specs.declared.Command.{Command}
use Rattle.file_digests.specs.Digests.{Given}
use Rattle.outside_files.specs.Files.{Contents}
use Rattle.typed_project.specs.declared.project.Project.{Project}

-- what true answers of reads give of the digests is what the files have, or a read failed or wanted memory
abbrev pub ToldFilesHaveDigests : Type 0
ToldFilesHaveDigests =
    (files : Contents) (command : Command) (project : Project) (given : Given)
    → AreDigests (Some files) command project given
    → (given ≡ digests_for files command project) ⊎ IsHindered given
