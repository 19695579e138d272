-- Laws about the page of a project of services by their images.
use Rattle.std.specs.Prelude.{◌≡◌, ◌<◌, ℕ, true, List, [], ◌++◌, All, codes, flat_map, length}
use Rattle.project_pages.specs.AttributePages.{page}
use Rattle.project_print.specs.Scalars.{doubled, is_plain, scalar}
use Rattle.typed_project.specs.PlainProjects.{PlainProject, PlainService, project_of}

-- a text as a page has it: each dollar twice, and in quotes where it has to be
abbrev pub text_word : List ℕ → List ℕ
text_word text = scalar (doubled text)

-- the lines of a service, by its key and its image
abbrev pub service_lines : PlainService → List ℕ
service_lines service =
    codes "  " ++ (scalar service.key ++ (codes ":\n    image: "
    ++ (text_word service.image ++ codes "\n    network_mode: none\n")))

-- the page of a project that has a service is the line of its name, a line above the services, and the lines of each
-- service
abbrev pub PagesHaveTheirLines : Type 0
PagesHaveTheirLines =
    (project : PlainProject) → 0 < length project.services
    → page (project_of project)
    ≡ codes "name: " ++ (text_word project.name
    ++ (codes "\nservices:\n" ++ flat_map service_lines project.services))

-- the page of a project that has no service is the line of its name, and a line that says that there are none
abbrev pub EmptyProjectsHaveTwoLines : Type 0
EmptyProjectsHaveTwoLines =
    (project : PlainProject) → project.services ≡ []
    → page (project_of project)
    ≡ codes "name: " ++ (text_word project.name ++ codes "\nservices: {}\n")

-- a service as a Compose file has it, line by line
abbrev pub print_of : PlainService → List ℕ
print_of service =
    codes "  " ++ (service.key ++ (codes ":\n    image: "
    ++ (service.image ++ codes "\n    network_mode: none\n")))

-- services as a Compose file has them, line by line
abbrev pub prints_of : List PlainService → List ℕ
prints_of services = codes "services:\n" ++ flat_map print_of services

-- where no word needs quotes, the page is the line of the name above the text of a Compose file with these services
abbrev pub PlainPagesAreFiles : Type 0
PlainPagesAreFiles =
    (project : PlainProject) → 0 < length project.services
    → All (λ service. is_plain service.key ≡ true) project.services
    → All (λ service. is_plain service.image ≡ true) project.services
    → page (project_of project)
    ≡ codes "name: " ++ (text_word project.name ++ (codes "\n" ++ prints_of project.services))
