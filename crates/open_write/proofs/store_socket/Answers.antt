-- `open_write::store_socket` meets its contract: tag and socket have a byte each. Assumes nothing.
use Rattle.open_write.proofs.Fields.{socket_bytes}
use Rattle.open_write.proofs.store_socket.Goals as goal

pub returns : goal.returns
returns c = rw (c.socket_of.ensures, socket_bytes _) at c.copy_at.ensures
