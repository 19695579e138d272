use Rattle.std.proofs.Common.{codes}
use Rattle.std.specs.Option.{option_map}
use Rattle.engine_bodies.specs.Containers.{host_value, networking_value}
use Rattle.engine_bodies.proofs.Tables.{ended, made_if_is, then}
use Rattle.engine_bodies.proofs.containers.container_json.Goals as goal

pub returns : goal.returns
returns c =
    ended c.end.result c.new-container.ensures
    (then c.option.ensures
    (then c.option-2.ensures
    (then c.option-3.ensures
    (then c.option-4.ensures
    (then c.set_if.ensures
    (then c.option-5.ensures
    (then (made_if_is (host_value c.args.spec.now) (codes "HostConfig") c.host_json.result c.made_if.ensures c.host_json.ensures)
    (then c.option-6.ensures
    (then c.option-7.ensures
    (then c.mapping.ensures
    (then (made_if_is (option_map networking_value c.args.spec.now.endpoints_config) (codes "NetworkingConfig") c.networking_json.result c.made_if-2.ensures c.networking_json.ensures)
    (then c.option-8.ensures
    (then c.option-9.ensures
    (then c.option-10.ensures
    (then c.option-11.ensures
    (then c.option-12.ensures
    (then c.set_if-2.ensures
    (c.option-13.ensures))))))))))))))))))
    c.end.ensures
