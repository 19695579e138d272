use Rattle.service_bases.proofs.extending.over_bases.Goals as goal

pub returns-clause-given : goal.returns-clause-given
returns-clause-given g c =
    rw (c.as_slice.ensures, c.in_ok-names.ensures, c.in_ok-copy.ensures, c.in_ok-copy-2.ensures, c.in_ok-places.ensures) at c.all_extended.ensures.given
