use Rattle.std.proofs.Common.{◌≡◌, ◌∙◌, List, ℕ, [], ◌++◌, codes, map, sym, append_assoc}
use Rattle.project_print.specs.Pages.{entry, shown}
use Rattle.project_print.specs.Written.{hanging}
use Rattle.project_print.specs.declared.node.Node.TheVariants.{Map, Text}
use Rattle.project_pages.specs.AttributePages.{file_entry, network_entry, service_entry, volume_entry}
use Rattle.project_pages.specs.Sections.{section_text}
use Rattle.project_pages.proofs.PageLines.{page_by_sections}
use Rattle.project_pages.proofs.pages.page.Goals as goal

joined : (a b c d e f : List ℕ) → ((((([] ++ a) ++ b) ++ c) ++ d) ++ e) ++ f ≡ a ++ (b ++ (c ++ (d ++ (e ++ f))))
joined a b c d e f = simp append_assoc

pub returns : goal.returns
returns c =
    rw (c.in_ok-put_section_lines-4.ensures, c.in_ok-put_mapping_entry.ensures, c.in_ok-put_section_lines-3.ensures, c.in_ok-put_section_lines-2.ensures, c.in_ok-put_name.ensures, c.in_ok-put_section_lines.ensures, c.new-out.ensures, c.as_slice.ensures, c.as_slice-2.ensures, c.as_slice-3.ensures, c.as_slice-4.ensures, c.as_slice-5.ensures)
    (joined (section_text (codes "configs") (λ configs. Map (map file_entry configs)) c.args.project.now.configs)
    (hanging 0 (entry (codes "name", shown (Text c.args.project.now.name))))
    (section_text (codes "networks") (λ networks. Map (map network_entry networks)) c.args.project.now.networks)
    (section_text (codes "secrets") (λ secrets. Map (map file_entry secrets)) c.args.project.now.secrets)
    (hanging 0 (entry (codes "services", shown (Map (map service_entry c.args.project.now.services)))))
    (section_text (codes "volumes") (λ volumes. Map (map volume_entry volumes)) c.args.project.now.volumes)
    ∙ sym (page_by_sections c.args.project.now))
