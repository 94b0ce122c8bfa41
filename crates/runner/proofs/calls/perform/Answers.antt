use Rattle.runner.proofs.Performing.{fits_always, performed_as, receipt_fits}
use Rattle.runner.proofs.calls.perform.Goals as goal

pub returns-in-Add : goal.returns-in-Add
returns-in-Add g c = record {
  value = performed_as _ _ _ _ _ c.in-Add.is (record { reply = c.add.result; step = c.add.ensures; shows = c.shown.ensures.value });
  room = c.shown.ensures.room (fits_always c.add.result);
}

pub returns-in-Withdraw : goal.returns-in-Withdraw
returns-in-Withdraw g c = record {
  value = performed_as _ _ _ _ _ c.in-Withdraw.is (record { reply = c.withdraw.result; step = c.withdraw.ensures; shows = c.shown-in-Withdraw.ensures.value });
  room = c.shown-in-Withdraw.ensures.room (fits_always c.withdraw.result);
}

pub returns-in-Open : goal.returns-in-Open
returns-in-Open g c = record {
  value = performed_as _ _ _ _ _ c.in-Open.is (record { reply = c.«open».result; step = c.«open».ensures; shows = c.shown-in-Open.ensures.value });
  room = c.shown-in-Open.ensures.room (fits_always c.«open».result);
}

pub returns-in-Bid : goal.returns-in-Bid
returns-in-Bid g c = record {
  value = performed_as _ _ _ _ _ c.in-Bid.is (record { reply = c.bid.result; step = c.bid.ensures; shows = c.shown-in-Bid.ensures.value });
  room = c.shown-in-Bid.ensures.room (receipt_fits _ _ _ _ _ _ _ c.bid.ensures);
}

pub returns-in-Seal : goal.returns-in-Seal
returns-in-Seal g c = record {
  value = performed_as _ _ _ _ _ c.in-Seal.is (record { reply = c.seal.result; step = c.seal.ensures; shows = c.shown-in-Seal.ensures.value });
  room = c.shown-in-Seal.ensures.room (fits_always c.seal.result);
}

pub returns-in-Award : goal.returns-in-Award
returns-in-Award g c = record {
  value = performed_as _ _ _ _ _ c.in-Award.is (record { reply = c.award.result; step = c.award.ensures; shows = c.shown-in-Award.ensures.value });
  room = c.shown-in-Award.ensures.room (fits_always c.award.result);
}

pub returns-in-Cancel : goal.returns-in-Cancel
returns-in-Cancel g c = record {
  value = performed_as _ _ _ _ _ c.in-Cancel.is (record { reply = c.cancel.result; step = c.cancel.ensures; shows = c.shown-in-Cancel.ensures.value });
  room = c.shown-in-Cancel.ensures.room (fits_always c.cancel.result);
}

pub returns-in-Transfer : goal.returns-in-Transfer
returns-in-Transfer g c = record {
  value = performed_as _ _ _ _ _ c.in-Transfer.is (record { reply = c.transfer.result; step = c.transfer.ensures; shows = c.shown-in-Transfer.ensures.value });
  room = c.shown-in-Transfer.ensures.room (fits_always c.transfer.result);
}

pub returns-in-Return : goal.returns-in-Return
returns-in-Return g c = record {
  value = performed_as _ _ _ _ _ c.in-Return.is (record { reply = c.return_rights.result; step = c.return_rights.ensures; shows = c.shown-in-Return.ensures.value });
  room = c.shown-in-Return.ensures.room (fits_always c.return_rights.result);
}

pub returns-in-Curtail : goal.returns-in-Curtail
returns-in-Curtail g c = record {
  value = performed_as _ _ _ _ _ c.in-Curtail.is (record { reply = c.curtail.result; step = c.curtail.ensures; shows = c.shown-in-Curtail.ensures.value });
  room = c.shown-in-Curtail.ensures.room (fits_always c.curtail.result);
}

pub returns-in-Invoice : goal.returns-in-Invoice
returns-in-Invoice g c = record {
  value = performed_as _ _ _ _ _ c.in-Invoice.is (record { reply = c.invoice.result; step = c.invoice.ensures; shows = c.shown-in-Invoice.ensures.value });
  room = c.shown-in-Invoice.ensures.room (fits_always c.invoice.result);
}

pub returns-in-Payment : goal.returns-in-Payment
returns-in-Payment g c = record {
  value = performed_as _ _ _ _ _ c.in-Payment.is (record { reply = c.payment.result; step = c.payment.ensures; shows = c.shown-in-Payment.ensures.value });
  room = c.shown-in-Payment.ensures.room (fits_always c.payment.result);
}

pub returns-in-Draw : goal.returns-in-Draw
returns-in-Draw g c = record {
  value = performed_as _ _ _ _ _ c.in-Draw.is (record { reply = c.draw.result; step = c.draw.ensures; shows = c.shown-in-Draw.ensures.value });
  room = c.shown-in-Draw.ensures.room (fits_always c.draw.result);
}

pub returns-in-Payout : goal.returns-in-Payout
returns-in-Payout g c = record {
  value = performed_as _ _ _ _ _ c.in-Payout.is (record { reply = c.payout.result; step = c.payout.ensures; shows = c.shown-in-Payout.ensures.value });
  room = c.shown-in-Payout.ensures.room (fits_always c.payout.result);
}

pub returns-in-Day : goal.returns-in-Day
returns-in-Day g c = record {
  value = performed_as _ _ _ _ _ c.in-Day.is (record { reply = c.day.result; step = c.day.ensures; shows = c.shown-in-Day.ensures.value });
  room = c.shown-in-Day.ensures.room (fits_always c.day.result);
}
