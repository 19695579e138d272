-- Ids differ in an Engine that is sound.
use Rattle.memory_engine.proofs.state.MemoryEngine.container.Goals as goal

pub container-requires : goal.container-requires
container-requires c = c.args.self.now.kept.sound.container_ids
