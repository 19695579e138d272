use Rattle.std.proofs.Common.{ap}
use Rattle.asked_run.proofs.Declared.{gives_refused, identity_no_read, set_acyclic, set_needs, set_own, set_whole}
use Rattle.asked_run.specs.Declaring.{declared_or_refused}
use Rattle.declared_set.specs.Declaring.{declared}
use Rattle.asked_run.proofs.declaring.declared_in.Goals as goal

pub returns-in-Ok-clause-told : goal.returns-in-Ok-clause-told
returns-in-Ok-clause-told c = ap declared_or_refused c.in-Ok.ensures

pub returns-in-Ok-clause-whole : goal.returns-in-Ok-clause-whole
returns-in-Ok-clause-whole c = set_whole c.args.loaded.now c.args.scales.now c.args.digests.now c.in-Ok.declared c.requires.keyed.order.services c.in-Ok.ensures

pub returns-in-Ok-clause-own : goal.returns-in-Ok-clause-own
returns-in-Ok-clause-own c = set_own c.args.loaded.now c.args.scales.now c.args.digests.now c.in-Ok.declared c.requires.numbered c.in-Ok.ensures

pub returns-in-Ok-clause-needs : goal.returns-in-Ok-clause-needs
returns-in-Ok-clause-needs c = set_needs c.args.loaded.now c.args.scales.now c.args.digests.now c.in-Ok.declared c.in-Ok.ensures

pub returns-in-Ok-clause-acyclic : goal.returns-in-Ok-clause-acyclic
returns-in-Ok-clause-acyclic c = set_acyclic c.args.loaded.now c.args.scales.now c.args.digests.now c.in-Ok.declared c.requires.keyed.order.services c.requires.acyclic c.in-Ok.ensures

pub returns-in-Err-clause-told : goal.returns-in-Err-clause-told
returns-in-Err-clause-told c = gives_refused (declared c.args.loaded.now c.args.scales.now c.args.digests.now) c.in-Err.refusal c.from.result c.from.ensures.refusal c.in-Err.ensures

pub returns-in-Err-clause-read : goal.returns-in-Err-clause-read
returns-in-Err-clause-read c = identity_no_read c.in-Err.refusal c.from.result c.from.ensures.refusal
