-- What is said of a socket at which nothing could be sent.
use Rattle.std.specs.Prelude.{ℕ, List, [], ◌++◌, codes}
use Rattle.hints.specs.declared.sockets.SocketState.{SocketState}
use Rattle.run_model.specs.Shown.{shown}

-- the words before its path
abbrev pub before_words : SocketState → List ℕ
before_words SocketState.Missing = codes "there is no socket at "
before_words SocketState.Other = codes "what stands at "
before_words SocketState.Barred = codes "the socket "
before_words SocketState.Silent = codes "nobody listens at the socket "

-- the words behind it
abbrev pub after_words : SocketState → List ℕ
after_words SocketState.Missing = []
after_words SocketState.Other = codes " is no socket"
after_words SocketState.Barred = codes " may not be opened"
after_words SocketState.Silent = []

-- the hint on the socket at a path
abbrev pub socket_hint : SocketState → List ℕ → List ℕ
socket_hint state path = before_words state ++ shown path ++ after_words state
