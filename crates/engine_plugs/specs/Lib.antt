pub mod MainHands
