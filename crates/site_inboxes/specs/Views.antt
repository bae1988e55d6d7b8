-- Of whom a view is, and which number it has.
use Rattle.std.specs.Prelude.{ℕ, Bool, true, false}
use Rattle.np_inbox_rule.specs.declared.views.View.{View}
use Rattle.np_inbox_rule.specs.declared.views.View.TheVariants.{Owner, Sender}

module _ {I : Type 0} where
  abbrev pub is_owner : View I → Bool
  is_owner (Owner v) = true
  is_owner _ = false

  abbrev pub is_sender : View I → Bool
  is_sender (Sender v) = true
  is_sender _ = false

  -- the number of sites that it knows
  abbrev pub sites_in : View I → ℕ
  sites_in (Owner v) = v.sites
  sites_in (Sender v) = v.sites
  sites_in _ = 0

  -- how many senders were made
  abbrev pub made_in : View I → ℕ
  made_in (Owner v) = v.made
  made_in _ = 0

  -- the sender's number
  abbrev pub number_in : View I → ℕ
  number_in (Sender v) = v.number
  number_in (Owner v) = v.made
  number_in _ = 0
