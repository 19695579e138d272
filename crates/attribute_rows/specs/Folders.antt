-- Where files of each kind are seen.
use Rattle.attribute_rows.specs.Rows.{Folder, of_configs, of_secrets}
use Rattle.attribute_rows.specs.declared.files.Files.{Files}

-- where secrets, or configs, are seen
abbrev pub folder_of : Files → Folder
folder_of Files.Secrets = of_secrets
folder_of Files.Configs = of_configs
