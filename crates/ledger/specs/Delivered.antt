-- What a server has delivered.
use Rattle.std.specs.Prelude.{take}
use Rattle.base.specs.Transaction.{Hist}
use Rattle.rules.specs.Server.{Server}

-- the first d transactions of its history
abbrev pub delivered_of : Server → Hist
delivered_of s = take s.dur.d s.dur.hist
