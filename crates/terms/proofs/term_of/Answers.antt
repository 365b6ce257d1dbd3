-- `terms::term_of` meets its contract: 18 before 36 before 37, and the client before the defaults. Assumes nothing.
use Rattle.terms.proofs.Layers.{client_unreadable, defaults_unreadable, in_client, in_defaults}
use Rattle.terms.proofs.term_of.Goals as goal

pub returns-in_default : goal.returns-in_default
returns-in_default c = client_unreadable _ _ _ _ c.check_struct-read.ensures _ c.in_default.is _ c.unreadable.ensures

pub returns-in_default-beneath : goal.returns-in_default-beneath
returns-in_default-beneath c = defaults_unreadable _ _ _ _ c.check_struct-read.ensures c.in-Ok.is _ c.check_struct-beneath.ensures _ c.in_default-beneath.is _ c.unreadable-in_default-beneath.ensures

pub returns-in_default-found : goal.returns-in_default-found
returns-in_default-found c = in_client _ _ _ _ c.check_struct-read.ensures c.in-Ok.is _ c.check_struct-beneath.ensures c.in-Ok-beneath.is _ c.find-found.ensures _ c.in_layer.ensures _ c.in_default-found.is

pub returns : goal.returns
returns c = in_defaults _ _ _ _ c.check_struct-read.ensures c.in-Ok.is _ c.check_struct-beneath.ensures c.in-Ok-beneath.is _ c.find-found.ensures c.in-None.is _ c.find.ensures _ c.in_layer-2.ensures
