-- What the forms give that look at nothing beside them is read again of what is shown of it.
use Rattle.std.proofs.Common.{◌≡◌, Bool, true, false, List, Some, None, Ok, refl}
use Rattle.std.specs.Prelude.{Option}
use Rattle.std.specs.Fmt.{decimal, signed_decimal}
use Rattle.short_forms.specs.Decimals.{decimal_of}
use Rattle.short_forms.specs.Durations.{duration_of}
use Rattle.short_forms.specs.PortLaws.{published_in, target_in}
use Rattle.short_forms.specs.Printed.{decimal_text, duration_text}
use Rattle.short_forms.specs.Sizes.{size_of}
use Rattle.tree_base.specs.declared.tree.Tree.{Tree, out-Tree}
use Rattle.tree_base.specs.declared.tree.Tree.TheOpen.{Tree-F}
use Rattle.attribute_types.specs.Answers.{refused}
use Rattle.attribute_types.specs.declared.attribute.Value.{Value}
use Rattle.attribute_types.specs.declared.form.Plain.{Plain}
use Rattle.attribute_types.specs.declared.refusal.Fault.{Fault}
use Rattle.attribute_scalars.specs.Scalars.{has_no_colon, int_of, is_word_of, num_of}
use Rattle.attribute_scalars.specs.Walks.{Entries, Read, each_entry, in_byte_order}
use Rattle.attribute_values.specs.Forms.{no_options, plain_value}
use Rattle.laws_attributes.proofs.Deployed.{deploy_form}
use Rattle.laws_attributes.proofs.ListForms.{argv_form, items_form, kept_form, labels_form, list_form, pairs_form, test_form}
use Rattle.laws_attributes.proofs.PlainForms.{Back, accepted_form, bool_form, bound_given, flag_form, passing_form, text_form, written_form}
use Rattle.laws_attributes.proofs.ScalarForms.{decimal_back, duration_back, int_back, num_back, published_again, size_back, target_again}

-- the forms that look at nothing beside them, but for the options of a bind
abbrev pub is_ordinary : Plain → Bool
is_ordinary Plain.Scale = false
is_ordinary Plain.NetworkMode = false
is_ordinary Plain.External = false
is_ordinary Plain.Source = false
is_ordinary Plain.Bind = false
is_ordinary plain = true

pub no_value : (s : Tree-F Tree) (v : Value) → no_options s ≡ Ok (Some v) → ⊥
no_value (Tree-F.Map entries) v e =
    let b = bound_given (each_entry (λ key tree. refused {X = List Value} Fault.UnknownAttribute) (in_byte_order entries)) (λ none. nothing) (Some v) e in
    cc b.2
  where
    nothing : Read (Option Value)
    nothing = Ok None
no_value Tree-F.Null v e = cc e
no_value (Tree-F.Scalar text) v e = cc e
no_value (Tree-F.Seq items) v e = cc e
no_value Tree-F.Reset v e = cc e
no_value (Tree-F.Override inner) v e = cc e

pub ordinary_back : (plain : Plain) → is_ordinary plain ≡ true → (beside : Entries) (tree : Tree) (v : Value)
    → plain_value plain beside tree (out-Tree tree) ≡ Ok (Some v) → Back plain v
ordinary_back Plain.Text o beside tree v e = text_form (out-Tree tree) v e
ordinary_back Plain.Bool o beside tree v e = bool_form (out-Tree tree) v e
ordinary_back Plain.Flag o beside tree v e = flag_form (out-Tree tree) v e
ordinary_back Plain.Num o beside tree v e = written_form Plain.Num Value.Num num_of decimal (λ x. refl) num_back (λ b t s. refl) (out-Tree tree) v e
ordinary_back Plain.Int o beside tree v e = written_form Plain.Int Value.Int int_of signed_decimal (λ x. refl) int_back (λ b t s. refl) (out-Tree tree) v e
ordinary_back Plain.List o beside tree v e = list_form (out-Tree tree) v e
ordinary_back (Plain.Items form) o beside tree v e = items_form form (out-Tree tree) v e
ordinary_back Plain.Pairs o beside tree v e = pairs_form (out-Tree tree) v e
ordinary_back Plain.Labels o beside tree v e = labels_form (out-Tree tree) v e
ordinary_back Plain.Argv o beside tree v e = argv_form (out-Tree tree) v e
ordinary_back Plain.Duration o beside tree v e = written_form Plain.Duration Value.Duration duration_of duration_text (λ x. refl) duration_back (λ b t s. refl) (out-Tree tree) v e
ordinary_back Plain.Size o beside tree v e = written_form Plain.Size Value.Size size_of decimal (λ x. refl) size_back (λ b t s. refl) (out-Tree tree) v e
ordinary_back Plain.Decimal o beside tree v e = written_form Plain.Decimal Value.Decimal decimal_of decimal_text (λ x. refl) decimal_back (λ b t s. refl) (out-Tree tree) v e
ordinary_back (Plain.Word set) o beside tree v e = passing_form (Plain.Word set) (is_word_of set) (λ b t s. refl) (out-Tree tree) v e
ordinary_back Plain.Kept o beside tree v e = kept_form tree v e
ordinary_back Plain.Scale o beside tree v e = absurd (cc o)
ordinary_back Plain.Deploy o beside tree v e = deploy_form tree v e
ordinary_back Plain.NetworkMode o beside tree v e = absurd (cc o)
ordinary_back Plain.External o beside tree v e = absurd (cc o)
ordinary_back Plain.Test o beside tree v e = test_form (out-Tree tree) v e
ordinary_back Plain.PortTarget o beside tree v e = accepted_form Plain.PortTarget Value.Port target_in decimal (λ x. refl) target_again (λ b t s. refl) (out-Tree tree) v e
ordinary_back Plain.Published o beside tree v e = accepted_form Plain.Published Value.Text published_in (λ text. text) (λ x. refl) published_again (λ b t s. refl) (out-Tree tree) v e
ordinary_back Plain.Source o beside tree v e = absurd (cc o)
ordinary_back Plain.Target o beside tree v e = passing_form Plain.Target has_no_colon (λ b t s. refl) (out-Tree tree) v e
ordinary_back Plain.Bind o beside tree v e = absurd (cc o)
ordinary_back Plain.NoOptions o beside tree v e = absurd (no_value (out-Tree tree) v e)
ordinary_back Plain.Dropped o beside tree v e = absurd (cc e)
