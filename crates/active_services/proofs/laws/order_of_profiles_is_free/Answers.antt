use Rattle.active_services.proofs.ProfileOrder.{order_free}
use Rattle.active_services.proofs.laws.order_of_profiles_is_free.Goals as goal

pub returns : goal.returns
returns c = order_free
